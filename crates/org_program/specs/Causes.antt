-- Where each fault of the program comes from.
use Rattle.std.specs.Prelude.{◌≡◌, ℕ, List, ◌∷◌, ◌++◌, drop, Option, Some, None, Result, Ok, Err, IsTrue, IsFalse, find, not, string_bytes}
use Rattle.std.specs.List.{Contains}
use Rattle.org_fault.specs.declared.fault.Fault as call
use Rattle.org_fault.specs.declared.fault.Fault.TheVariants as why
use Rattle.org_disk.specs.Names.{journal_name}
use Rattle.org_fileset.specs.declared.open.OpenFault.{OpenFault}
use Rattle.org_fileset.specs.declared.open.OpenFault.TheVariants as refused
use Rattle.org_fileset.specs.Names.{with_archives, AreSorted, AreFew}
use Rattle.org_folder.specs.OrgFiles.{is_org_file}
use Rattle.org_folder.specs.declared.aliases.AliasFault.{AliasFault}
use Rattle.org_folder.specs.declared.aliases.AliasFault.TheVariants as alias
use Rattle.org_folder.specs.declared.list.ListFault.{ListFault}
use Rattle.org_folder.specs.declared.list.ListFault.TheVariants as list
use Rattle.org_folder.specs.declared.lock.Locked as lock
use Rattle.org_outline.specs.States.{are_states}
use Rattle.org_outline.specs.declared.states.BadStates as states
use Rattle.org_serve.specs.declared.end.ServeEnd.{ServeEnd}
use Rattle.org_serve.specs.declared.end.ServeEnd.TheVariants.{End, Unsettled, Device, Read, Write}
use Rattle.org_program.specs.declared.arguments.Arguments.{Arguments}
use Rattle.org_program.specs.declared.fault.Fault.{Fault}
use Rattle.org_program.specs.declared.fault.Fault.TheVariants.{BadName, BadStates, Locked, Inside, SameFile, Linked, Open, Ended}
use Rattle.org_program.specs.Lists.{names_in, states_in, AreListed}

-- what the program reports of how serving ended: nothing only where the input was served to its
-- end, and all is settled
abbrev pub reported : Result ServeEnd OpenFault → Result (Unit {0}) Fault
reported (Ok End) = Ok tt
reported (Ok Unsettled) = Err (Ended Unsettled)
reported (Ok Device) = Err (Ended Device)
reported (Ok Read) = Err (Ended Read)
reported (Ok Write) = Err (Ended Write)
reported (Err fault) = Err (Open fault)

-- .. and of how forgetting ended
abbrev pub forgetting : Result (Unit {0}) OpenFault → Result (Unit {0}) Fault
forgetting (Ok _) = Ok tt
forgetting (Err fault) = Err (Open fault)

-- why a folder's files couldn't be listed
abbrev pub listing : ListFault → Fault
listing list.Device = Open refused.Device
listing list.OutOfMemory = Open refused.OutOfMemory

-- why a folder couldn't be locked
abbrev pub locking : call.Fault lock.Locked → Fault
locking (why.Refused _) = Locked
locking why.OutOfMemory = Open refused.OutOfMemory

-- why names couldn't be shown to lead to files of their own
abbrev pub sharing : AliasFault → Fault
sharing (alias.SameFile name) = SameFile name
sharing alias.Linked = Linked
sharing (alias.Unseen cause) = listing cause

-- why the states couldn't be had
abbrev pub stating : call.Fault states.BadStates → Fault
stating (why.Refused _) = BadStates
stating why.OutOfMemory = Open refused.OutOfMemory

-- the first of the names that is no Org file's
abbrev pub first_bad : List (List ℕ) → Option (List ℕ)
first_bad names = find (λ name. not (is_org_file name)) names

-- why names aren't a store's: the first bad one, or else want of memory
abbrev pub IsCauseOfNames : List (List ℕ) → Fault → Type 0
IsCauseOfNames names (BadName name) = first_bad names ≡ Some (string_bytes name)
IsCauseOfNames names (Open refused.OutOfMemory) = Unit {0}
IsCauseOfNames names fault = ⊥

-- A name that may be reported to share a file in a store with these names, which are few: after
-- the first one, in byte order, of theirs, their archive files' and the journal's.
pub record MayBeShared (names : List (List ℕ)) (name : List ℕ) : Type 0 where
  pub few : AreFew names
  pub files : List (List ℕ)
  pub sorted : AreSorted (journal_name ∷ with_archives names) files
  pub behind : Contains (drop 1 files) name

-- what may be reported of where the names of a store lead; of too many names nothing is
abbrev pub MayShare : List (List ℕ) → AliasFault → Type 0
MayShare names (alias.SameFile name) = MayBeShared names name
MayShare names alias.Linked = AreFew names
MayShare names (alias.Unseen list.Device) = AreFew names
MayShare names (alias.Unseen list.OutOfMemory) = Unit {0}

-- the names and the states of the arguments are a store's
abbrev pub NameAStore : Arguments → Type 0
NameAStore arguments =
    (first_bad (names_in arguments) ≡ None) × IsTrue (are_states (states_in arguments))

-- why a folder couldn't be locked, or isn't a store's own
abbrev pub IsOfFolder : Fault → Type 0
IsOfFolder Locked = Unit {0}
IsOfFolder (Inside store) = Unit {0}
IsOfFolder (Open refused.Device) = Unit {0}
IsOfFolder (Open refused.OutOfMemory) = Unit {0}
IsOfFolder fault = ⊥

-- Why the names and states of the arguments aren't a store's, or its folder can't be had beside
-- them. What comes first in this order is reported: the first bad name, bad states, a folder on
-- which another store is open, a store above, the rest of the folder. Want of memory may take the
-- place of each.
abbrev pub IsCause : Arguments → Fault → Type 0
IsCause arguments (BadName name) = first_bad (names_in arguments) ≡ Some (string_bytes name)
IsCause arguments BadStates =
    (first_bad (names_in arguments) ≡ None) × IsFalse (are_states (states_in arguments))
IsCause arguments Locked = NameAStore arguments
IsCause arguments (Inside store) = NameAStore arguments
IsCause arguments Linked = NameAStore arguments
IsCause arguments (Open refused.Device) = NameAStore arguments
IsCause arguments (SameFile name) = NameAStore arguments
    × ((listed : List (List ℕ)) × AreListed arguments listed
    × MayBeShared (names_in arguments ++ listed) name)
IsCause arguments (Open refused.OutOfMemory) = Unit {0}
IsCause arguments fault = ⊥
