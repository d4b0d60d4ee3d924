-- What opening a set of files answers.
use Rattle.std.specs.Prelude.{◌≡◌, ◌≢◌, ◌≤◌, ℕ, List, length, drop, IsTrue, IsFalse, Some, None, IfErr, IsSomeAnd, Result, Ok, Err, Vec}
use Rattle.org_disk.specs.declared.disk.Disk.{Ghosts}
use Rattle.std.specs.Global.{Global}
use Rattle.std.specs.List.{AllByRecursion}
use Rattle.org_disk.specs.CountsFailures.{CountsFailures}
use Rattle.org_disk.specs.Names.{journal_name}
use Rattle.org_disk.specs.declared.name.FileName.{FileName}
use Rattle.org_journal.specs.declared.finding.Found.{Found}
use Rattle.org_journal.specs.declared.finding.Found.TheVariants.{Closed, Open}
use Rattle.org_journal.specs.declared.record.Entry.{Entry}
use Rattle.org_journal.specs.Gate.{is_open}
use Rattle.org_journal.specs.Reading.{journal_at}
use Rattle.org_journal.specs.Record.{is_named, most_entries}
use Rattle.org_journal.specs.Recovered.{Image, SameFiles, all_fit, contents, recovered}
use Rattle.org_journal.specs.declared.fault.FindFault.{FindFault}
use Rattle.org_journal.specs.declared.fault.FindFault.TheVariants as find
use Rattle.org_fileset.specs.declared.open.OpenFault.{OpenFault}
use Rattle.org_fileset.specs.declared.open.OpenFault.TheVariants.{TooManyFiles, BadJournal, Changed, Outside, TooLarge, Device, OutOfMemory}
use Rattle.org_fileset.specs.declared.open.OpenRefused.{OpenRefused}
use Rattle.org_fileset.specs.Names.{with_archives, AreSorted, AreFew, AreTooMany, first_large}
use Rattle.org_fileset.specs.Recovery.{Reopens, IsFoundBad, closed_journal}

-- the disk that is in what was opened, or handed back
abbrev pub disk_in : {S D : Type 0} → Result S (OpenRefused D) → (S → D) → D
disk_in (Ok opened) disk = disk opened
disk_in (Err refused) disk = refused.disk

-- it was refused because a call of the disk failed
abbrev pub IsDeviceRefusal : {A D : Type 0} → Result A (OpenRefused D) → Type 0
IsDeviceRefusal (Ok opened) = ⊥
IsDeviceRefusal (Err refused) = refused.fault ≡ Device

-- the same fault, as an opening reports it
abbrev pub fault_of : FindFault → OpenFault
fault_of find.BadJournal = BadJournal
fault_of find.Device = Device
fault_of find.OutOfMemory = OutOfMemory

-- A file of this name is one of those that the record names.
abbrev pub Names : Found → List ℕ → Type 0
Names Closed name = ⊥
Names (Open entries end) name = IsTrue (is_named name entries)

-- the record that was found fits these files
abbrev pub IsFit : Found → Image → Type 0
IsFit Closed files = Unit {0}
IsFit (Open entries end) files = IsTrue (all_fit entries files)

-- .. or it doesn't
abbrev pub IsUnfit : Found → Image → Type 0
IsUnfit Closed files = ⊥
IsUnfit (Open entries end) files = IsFalse (all_fit entries files)

-- Why a record that was found isn't done: a file that it names stands otherwise than a crash may
-- have left it; or it doesn't fit its files; or a call failed, or there was no memory for the name.
abbrev pub IsStrange : (List ℕ → Type 0) → Type 0 → OpenFault → Type 0
IsStrange Named Unfit (Changed name) = Named name
IsStrange Named Unfit (Outside name) = Named name
IsStrange Named Unfit BadJournal = Unfit
IsStrange Named Unfit Device = Unit {0}
IsStrange Named Unfit OutOfMemory = Unit {0}
IsStrange Named Unfit fault = ⊥

-- none of the names is the journal's, and they are no more than a record can have
pub record AreSetNames (names : List (List ℕ)) : Type 0 where
  pub each : AllByRecursion (λ name. name ≢ journal_name) names
  pub few : length names ≤ most_entries

-- These names of a set are all that the given ones ask for; or there is this fault with them.
abbrev pub AreAllNames : List (List ℕ) → Result (Vec FileName Global) OpenFault → Type 0
AreAllNames given (Ok names) =
    AreFew given × AreSorted (with_archives given) names.items × AreSetNames names.items
AreAllNames given (Err TooManyFiles) = AreTooMany given
AreAllNames given (Err OutOfMemory) = Unit {0}
AreAllNames given (Err fault) = ⊥

-- The journal is open over a record that names this file, and each content is as it was.
pub record IsFoundOver (name : List ℕ) (before now : Image) : Type 0 where
  pub opened : IsTrue (is_open (before journal_name))
  pub entries : List Entry
  pub found : journal_at (drop 1 (before journal_name)) ≡ Some entries
  pub named : IsTrue (is_named name entries)
  pub same : now ≡ before

-- Why a disk isn't brought to rest, from which an opening goes on to its sizes.
abbrev pub IsFaultOfRecovery : Type 0 → Image → Image → OpenFault → Type 0
IsFaultOfRecovery honest before now BadJournal = honest → IsFoundBad before now
IsFaultOfRecovery honest before now (Changed name) = honest → IsFoundOver name before now
IsFaultOfRecovery honest before now (Outside name) = honest → IsFoundOver name before now
IsFaultOfRecovery honest before now Device = Unit {0}
IsFaultOfRecovery honest before now OutOfMemory = Unit {0}
IsFaultOfRecovery honest before now fault = ⊥

-- No file of these names is past the limit; or there is this fault.
abbrev pub HaveSizes : Image → List (List ℕ) → Result (Unit {0}) OpenFault → Type 0
HaveSizes files names (Ok _) = first_large files names ≡ None
HaveSizes files names (Err (TooLarge name)) = first_large files names ≡ Some name
HaveSizes files names (Err Device) = Unit {0}
HaveSizes files names (Err OutOfMemory) = Unit {0}
HaveSizes files names (Err fault) = ⊥

-- what a crash had cut short was finished: the files are what the disk recovered to, and
-- the gate is closed
pub record IsRecovered (before now : Image) : Type 0 where
  pub files : IsSomeAnd (recovered before) (SameFiles now)
  pub journal : now journal_name ≡ closed_journal (before journal_name)

-- No file of these names is past the limit after a record was brought to its end; or there is this
-- fault. The sizes are asked for once it was.
abbrev pub IsAnswer : Image → Image → List (List ℕ) → Result (Unit {0}) OpenFault → Type 0
IsAnswer before now names (Err BadJournal) = IsFoundBad before now
IsAnswer before now names (Err (Changed name)) = IsFoundOver name before now
IsAnswer before now names (Err (Outside name)) = IsFoundOver name before now
IsAnswer before now names (Ok done) = HaveSizes now names (Ok done)
IsAnswer before now names (Err (TooLarge name)) =
    HaveSizes now names (Err (TooLarge name)) × IsRecovered before now
IsAnswer before now names (Err TooManyFiles) = ⊥
IsAnswer before now names (Err Device) = Unit {0}
IsAnswer before now names (Err OutOfMemory) = Unit {0}

-- A set over files of the given names isn't opened for this reason. What lies in the files of a
-- disk counts where the disk is honest as the call ends: what lay in them when it began, and what
-- lies in them then.
abbrev pub IsReason : List (List ℕ) → Type 0 → Image → Image → OpenFault → Type 0
IsReason given honest before now TooManyFiles = AreTooMany given
IsReason given honest before now BadJournal = AreFew given × (honest → IsFoundBad before now)
IsReason given honest before now (Changed name) =
    AreFew given × (honest → IsFoundOver name before now)
IsReason given honest before now (Outside name) =
    AreFew given × (honest → IsFoundOver name before now)
IsReason given honest before now (TooLarge name) = AreFew given
    × (honest → (names : List (List ℕ)) × AreSorted (with_archives given) names
    × (first_large now names ≡ Some name) × IsRecovered before now)
IsReason given honest before now Device = AreFew given
IsReason given honest before now OutOfMemory = Unit {0}

-- What was opened with the given names has these, in byte order, with those of their archive files;
-- and no file of them is past the limit, where the disk is honest.
pub record IsOpenedFor (given names : List (List ℕ)) (honest : Type 0) (now : Image) : Type 0 where
  pub few : AreFew given
  pub sorted : AreSorted (with_archives given) names
  pub sizes : honest → first_large now names ≡ None

-- An opening with the given names over the disk `before` was refused for this fault, and handed it
-- back as `now`.
pub record IsRefusedFor {D : Type 0} (g : Ghosts D) (given : List (List ℕ)) (before now : D)
    (fault : OpenFault) : Type 0 where
  pub reason : IsReason given (g.honest now) (contents (g.files before)) (contents (g.files now))
      fault
  pub unused : fault ≡ TooManyFiles → now ≡ before

-- What an opening with the given names does to the disk `before`, whatever is opened: it finishes
-- what a crash cut short, or is refused, and answers each failure of the disk. `now` is the disk in
-- what was opened, or the one that was handed back.
pub record Opens {S D : Type 0} (g : Ghosts D) (given : List (List ℕ)) (before now : D)
    (result : Result S (OpenRefused D)) : Type 0 where
  pub reopens : Reopens g before now result
  pub refused : IfErr result (λ refused. IsRefusedFor g given before refused.disk refused.fault)
  pub accounts : CountsFailures g before now (IsDeviceRefusal result)
