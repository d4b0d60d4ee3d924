-- What contracts see of a set of files.
use Rattle.std.specs.Prelude.{◌≡◌, ◌≢◌, ◌⊎◌, ◌↔◌, ℕ, ◌≤◌, Bool, false, List, length, Result, IfOk, IsErrOf, IsFalse, IsTrue, OnOk, Vec}
use Rattle.std.specs.Global.{Global}
use Rattle.std.specs.List.{All, AllByRecursion, Contains}
use Rattle.std.specs.Map.{keys_of}
use Rattle.org_disk.specs.declared.disk.Disk.{Ghosts}
use Rattle.org_disk.specs.CountsFailures.{CountsFailures, LeavesOver}
use Rattle.org_disk.specs.Disk.{FileState}
use Rattle.org_disk.specs.Names.{journal_name}
use Rattle.org_splice.specs.Texts.{EditedText, IsEditOf}
use Rattle.org_journal.specs.Gate.{HasClosedGate}
use Rattle.org_journal.specs.Record.{most_entries}
use Rattle.org_journal.specs.Recovered.{Image, contents}
use Rattle.org_fileset.specs.Entries.{HasRecordOf, changed}
use Rattle.org_fileset.specs.declared.fault.SetFault.{SetFault}
use Rattle.org_fileset.specs.declared.open.OpenRefused.{OpenRefused}
use Rattle.org_fileset.specs.declared.fault.SetFault.TheVariants.{Broken, Device, OutOfMemory}
use Rattle.org_fileset.specs.Left.{IsLeft}
use Rattle.org_fileset.specs.Lengths.{AreLengths}
use Rattle.org_fileset.specs.Names.{limit}
use Rattle.org_fileset.specs.Opening.{IsOpenedFor, disk_in}
use Rattle.org_fileset.specs.Replay.{CommitsOver, IsAtRest}
use Rattle.org_fileset.specs.Writes.{IsOther}

-- A set of files: its disk, the names of its files, and whether a call of the disk failed.
pub record Opened (D : Type 0) : Type 0 where
  pub disk : D
  pub names : List (List ℕ)
  pub broken : Bool

-- the disk in the set that was opened, or the one that was handed back
abbrev pub disk_of : {D : Type 0} → Result (Opened D) (OpenRefused D) → D
disk_of result = disk_in result (λ set. set.disk)

-- A set that was just opened with the given names.
abbrev pub IsOpenedSet : {D : Type 0} → Ghosts D → List (List ℕ) → Opened D → Type 0
IsOpenedSet g given set = (set.broken ≡ false)
    × IsOpenedFor given set.names (g.honest set.disk) (contents (g.files set.disk))

-- What always holds of one: no name is the journal's, and they are no more than a record can have.
-- If no call failed and the disk is honest, the journal's gate is closed on it, and the lengths are
-- those of its files.
pub record IsSound (journal : List ℕ) (names : List (List ℕ)) (lengths : List ℕ) (broken : Bool)
    (honest : Type 0) (files : List ℕ → FileState) : Type 0 where
  pub journal_is : journal ≡ journal_name
  pub each : AllByRecursion (λ name. name ≢ journal_name) names
  pub few : length names ≤ most_entries
  pub gate : broken ≡ false → honest → HasClosedGate (files journal_name)
  pub lengths_are : broken ≡ false → honest → AreLengths names lengths (contents files)

-- What a call of a set makes of it besides its disk: a failed call of the disk breaks it, and a
-- broken one does nothing.
pub record KeepsSet {D A : Type 0} (old new : Opened D) (result : Result A SetFault)
    : Type 0 where
  pub same_names : new.names ≡ old.names
  pub refuses : IsErrOf result Broken ↔ IsTrue old.broken
  pub breaks : IsTrue new.broken ↔ (IsTrue old.broken ⊎ IsErrOf result Device)
  pub untouched : IsTrue old.broken → new ≡ old

-- These bytes were read, or the call failed: they are what lay in the file of this name.
abbrev pub ReadsBytes : {D E : Type 0} → Ghosts D → D → List ℕ → D → Result (Vec ℕ Global) E
    → Type 0
ReadsBytes g old name new result =
    IfOk result (λ bytes. g.honest new → bytes.items ≡ contents (g.files old) name)

-- What a commit of changes does to a disk: it has the files as they were or with the changed texts,
-- and no file is written but the changed ones and the journal.
abbrev pub Commits : {D A E : Type 0} → Ghosts D → D → List (List ℕ × EditedText) → D → Result A E
    → Type 0
Commits g old changes new result = g.honest new
    → CommitsOver g (changed changes (contents (g.files old))) (IsOther (keys_of changes)) old new
    result

-- After the journal's gate stands the record of the changes, where they were committed.
abbrev pub LeavesRecord : {D A E : Type 0} → Ghosts D → List (List ℕ × EditedText) → D
    → Result A E → Type 0
LeavesRecord g changes new result = g.honest new
    → OnOk result (HasRecordOf changes (contents (g.files new) journal_name))

-- All that a commit of these changes does to a set and its disk.
pub record CommitsSet {D A : Type 0} (g : Ghosts D) (old : Opened D)
    (changes : List (List ℕ × EditedText)) (result : Result A SetFault) (new : Opened D)
    : Type 0 where
  pub commits : Commits g old.disk changes new.disk result
  pub record_stands : LeavesRecord g changes new.disk result
  -- What a crash leaves at any moment since the call began is as the record of an open journal
  -- allows: no file is found to be changed by its bytes.
  pub left : g.honest new.disk → IsAtRest (g.files old.disk) → LeavesOver g old.disk new.disk IsLeft
  -- want of memory leaves all as it was
  pub memory : IsErrOf result OutOfMemory → new ≡ old
  pub set : KeepsSet old new result
  pub accounts : CountsFailures g old.disk new.disk (IsErrOf result Device)

-- Changes that may be committed to a set of these names over these files: the names are the set's,
-- and the texts are edits of what the files hold, and within the limit.
pub record AreCommittable (names : List (List ℕ)) (files : Image)
    (changes : List (List ℕ × EditedText)) : Type 0 where
  pub named : All (λ change. Contains names change.0) changes
  pub small : All (λ change. length change.1.bytes ≤ limit) changes
  pub edits : All (λ change. IsEditOf (files change.0) change.1) changes

-- A set may be asked to commit these changes: they are committable; what its files hold is asked
-- only where its disk is honest and no call of it failed.
pub record CanCommit {D : Type 0} (g : Ghosts D) (set : Opened D)
    (changes : List (List ℕ × EditedText)) : Type 0 where
  pub named : All (λ change. Contains set.names change.0) changes
  pub small : All (λ change. length change.1.bytes ≤ limit) changes
  pub edits : IsFalse set.broken → g.honest set.disk
      → All (λ change. IsEditOf (contents (g.files set.disk) change.0) change.1) changes
