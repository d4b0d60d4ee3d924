-- What a note of a call says: the event of its name and bytes. Those of an entry are the path of its
-- folder, and those of a path that was followed where it ends.
use Rattle.std.specs.Prelude.{ℕ, List}
use Rattle.org_folder.specs.Calls.{Event}
use Rattle.org_folder.specs.Calls.Event.{Filled, Locked, Above, Alone, Entry, Listed, Folder, There, Led, Unseen, Absent, Length, Read, Write, Again, Cut, Sync, Made, MadeFolder, Entered, Failed}
use Rattle.org_folder.specs.declared.record.Call.{Call}
use Rattle.org_folder.specs.declared.record.Call.TheVariants as call

abbrev pub event_of : Call → List ℕ → List ℕ → Event
event_of call.Filled name bytes = Filled name
event_of call.Locked name bytes = Locked name
event_of call.Entry name bytes = Entry name
event_of (call.Listed ok) name bytes = Listed name ok
event_of (call.Folder own) name bytes = Folder name own
event_of call.Above name bytes = Above name
event_of call.Alone name bytes = Alone
event_of (call.There device number plain link) name bytes = There name device number plain link
event_of call.Led name bytes = Led name bytes
event_of call.Unseen name bytes = Unseen name
event_of call.Absent name bytes = Absent name
event_of (call.Length n) name bytes = Length name n
event_of (call.Read from) name bytes = Read name from bytes
event_of (call.Write from ok) name bytes = Write name from bytes ok
event_of (call.Again from ok) name bytes = Again name from bytes ok
event_of (call.Cut to ok) name bytes = Cut name to ok
event_of (call.Sync ok) name bytes = Sync name ok
event_of (call.Made ok) name bytes = Made name ok
event_of (call.MadeFolder ok) name bytes = MadeFolder name ok
event_of (call.Entered ok) name bytes = Entered bytes name ok
event_of call.Failed name bytes = Failed name
