-- Files to which a record is being applied: whatever a crash leaves of them, the record makes the
-- same texts of it.
use Rattle.std.specs.Prelude.{◌≡◌, ◌≢◌, ◌⊎◌, ℕ, ◌^◌, ◌<◌, ◌≤◌, List, [], ◌∷◌, length, drop, Option, Some, None, Result, OnOk, MatchBool, IsTrue, IsFalse, Bool, true, false}
use Rattle.org_disk.specs.declared.disk.Disk.{Ghosts}
use Rattle.std.specs.List.{AllByRecursion}
use Rattle.std.specs.Str.{bytes_eq}
use Rattle.org_disk.specs.Disk.{FileState, IsImage, IsStable, Passes}
use Rattle.org_disk.specs.CountsFailures.{PassesOver, LeavesOver}
use Rattle.org_disk.specs.Names.{journal_name, is_file_name}
use Rattle.org_disk.specs.declared.disk.DiskFault.{DiskFault}
use Rattle.org_splice.specs.Patches.{AreWellFormed, Fit}
use Rattle.org_splice.specs.Texts.{pairs_of}
use Rattle.org_journal.specs.declared.record.Before.{Before}
use Rattle.org_journal.specs.declared.record.Entry.{Entry}
use Rattle.org_journal.specs.declared.record.Version.TheVariants.{Two}
use Rattle.org_journal.specs.Record.{is_named, names_differ, greatest_length}
use Rattle.org_journal.specs.Gate.{is_open, HasClosedGate}
use Rattle.org_journal.specs.Reading.{journal_at}
use Rattle.org_journal.specs.Recovered.{Image, SameFiles, RecoversTo, IsRecoverable, all_fit, contents, made_by, replayed}
use Rattle.org_fileset.specs.Left.{IsLeft, IsLeftBy}
use Rattle.org_fileset.specs.Writes.{LeavesAlone, IsUnwritten}

-- the entry fits this text, and makes that one of it; and where that is to be kept, the text is as
-- a crash may have left it
pub record IsMadeBy (keep : Bool) (entry : Entry) (text to : List ℕ) : Type 0 where
  pub fit : Fit (pairs_of entry.patches) entry.length (length text)
  pub makes : made_by entry text ≡ to
  pub left : IsTrue keep → IsLeftBy entry text

-- the entry makes this text of whatever a crash leaves of the file
abbrev pub EachMadeBy : Bool → Entry → List ℕ → FileState → Type 0
EachMadeBy keep entry to file = (text : List ℕ) → IsImage file text → IsMadeBy keep entry text to

-- what is left: a text of the entry's file of which the entry makes `to`, and an image of each
-- other file
pub record LeavesMaking (keep : Bool) (entry : Entry) (to : List ℕ) (files : List ℕ → FileState) (image : Image)
    : Type 0 where
  pub here : IsMadeBy keep entry (image entry.name) to
  pub others : (other : List ℕ) → other ≢ entry.name → IsImage (files other) (image other)

-- Calls that apply an entry to its file, all of it or a part: at each moment, and now, the entry
-- makes the same text of what a crash leaves of the file.
pub record Applies (keep : Bool) (entry : Entry) (to : List ℕ) (before now : ℕ) (past since : ℕ → Image → Type 0)
    (old new : List ℕ → FileState) : Type 0 where
  pub any_moment : Passes before now past since (LeavesMaking keep entry to old)
  pub takes : EachMadeBy keep entry to (new entry.name)
  pub others : (other : List ℕ) → other ≢ entry.name → new other ≡ old other

-- the record makes `to` of this text of the file with that name; what it doesn't name stays as it
-- is
abbrev pub TakesTo : Bool → List Entry → List ℕ → List ℕ → List ℕ → Type 0
TakesTo keep [] name text to = text ≡ to
TakesTo keep (entry ∷ entries) name text to =
    MatchBool (bytes_eq entry.name name) (IsMadeBy keep entry text to)
    (TakesTo keep entries name text to)

-- an entry that can be applied to a file which it fits
pub record IsApplicable (entry : Entry) : Type 0 where
  pub name : IsTrue (is_file_name entry.name)
  pub patches : AreWellFormed (pairs_of entry.patches) entry.length
  pub small : entry.length ≤ greatest_length Two

pub record AreApplicable (entries : List Entry) : Type 0 where
  pub each : AllByRecursion IsApplicable entries
  pub apart : IsTrue (names_differ entries)

-- entries that can be applied to these files, which they fit
pub record AreApplicableTo (entries : List Entry) (files : List ℕ → FileState) : Type 0 where
  pub applicable : AreApplicable entries
  pub fits : IsTrue (all_fit entries (contents files))

-- how long a file was before its entry was made: as the entry says, or as it is
abbrev pub length_before : Option Before → (size : ℕ) → ℕ
length_before None size = size
length_before (Some before) size = before.length

-- The entry's patches can be applied to a file of these bytes, which they fit.
pub record CanPatch (entry : Entry) (bytes : List ℕ) : Type 0 where
  pub formed : AreWellFormed (pairs_of entry.patches) entry.length
  pub small : entry.length < 2 ^ 63
  pub fits : Fit (pairs_of entry.patches) entry.length (length bytes)

-- whatever a crash leaves of the files, the record makes these texts of it
pub record EachTakes (keep : Bool) (entries : List Entry) (texts : Image) (files : List ℕ → FileState)
    : Type 0 where
  pub each : (name : List ℕ) → name ≢ journal_name → (text : List ℕ) → IsImage (files name) text
      → TakesTo keep entries name text (texts name)

-- what is left: a journal of these bytes, and files of which the record makes these texts
pub record LeavesTaking (keep : Bool) (journal : List ℕ) (entries : List Entry) (texts : Image) (image : Image)
    : Type 0 where
  pub same_journal : image journal_name ≡ journal
  pub each : (name : List ℕ) → name ≢ journal_name → TakesTo keep entries name (image name) (texts name)

-- Calls that apply a record to its files, all of it or a part: at each moment, and now, the record
-- makes the same texts of what a crash leaves.
pub record Replays (keep : Bool) (entries : List Entry) (texts : Image) (before now : ℕ)
    (past since : ℕ → Image → Type 0) (old new : List ℕ → FileState) : Type 0 where
  pub any_moment : Passes before now past since
      (LeavesTaking keep (old journal_name).content entries texts)
  pub takes : EachTakes keep entries texts new
  pub others : (name : List ℕ) → IsFalse (is_named name entries) → new name ≡ old name

-- the journal is on the disk with an open gate and this record
pub record IsOpenOver (entries : List Entry) (files : List ℕ → FileState) : Type 0 where
  pub stable : IsStable (files journal_name)
  pub opened : IsTrue (is_open (files journal_name).content)
  pub found : journal_at (drop 1 (files journal_name).content) ≡ Some entries

-- the journal's gate is closed, and after it stands this record
pub record IsClosedOver (entries : List Entry) (files : List ℕ → FileState) : Type 0 where
  pub gate : HasClosedGate (files journal_name)
  pub found : journal_at (drop 1 (files journal_name).content) ≡ Some entries

-- The files that the record doesn't name are on the disk, and it makes one and the same texts of
-- whatever a crash leaves of the others.
pub record IsReplayable (entries : List Entry) (files : List ℕ → FileState) : Type 0 where
  pub others : (name : List ℕ) → name ≢ journal_name → IsFalse (is_named name entries)
      → IsStable (files name)
  pub texts : Image
  pub takes : EachTakes false entries texts files

-- all is on the disk, and the gate is closed
pub record IsAtRest (files : List ℕ → FileState) : Type 0 where
  pub gate : HasClosedGate (files journal_name)
  pub stable : (name : List ℕ) → IsStable (files name)

-- .. on this disk
abbrev pub RestsOn : {D : Type 0} → Ghosts D → D → Type 0
RestsOn g disk = IsAtRest (g.files disk)

-- what the files of a disk hold
abbrev pub files_on : {D : Type 0} → Ghosts D → D → Image
files_on g disk = contents (g.files disk)

-- what is left recovers to these files, or for those
abbrev pub IsBeforeOrAfter : Image → Image → Image → Type 0
IsBeforeOrAfter before after image = RecoversTo before image ⊎ RecoversTo after image

-- The record of an open journal was applied to its files, and the gate was closed.
pub record IsReplayed (entries : List Entry) (old new : List ℕ → FileState) : Type 0 where
  pub gate : HasClosedGate (new journal_name)
  pub journal : contents new journal_name ≡ 0 ∷ drop 1 (contents old journal_name)
  pub made : SameFiles (contents new) (replayed entries (contents old))
  pub rest : IsReplayable entries old → IsAtRest new

-- What a call does that applies the record of an open journal to its files, and closes the gate,
-- where the disk is honest after it.
pub record ReplaysOver {D : Type 0} (g : Ghosts D) (entries : List Entry) (old new : D)
    (result : Result (Unit {0}) DiskFault) : Type 0 where
  pub done : OnOk result (IsReplayed entries (g.files old) (g.files new))
  -- where the record makes the same texts of whatever a crash leaves at the start
  pub any_moment : (can : IsReplayable entries (g.files old))
      → PassesOver g old new (RecoversTo can.texts)
  pub recoverable : IsReplayable entries (g.files old) → IsRecoverable (g.files new)
  -- where a crash leaves each file as the entries allow at the start
  pub left : (texts : Image) → EachTakes true entries texts (g.files old) → PassesOver g old new IsLeft
  pub alone : LeavesAlone g (IsUnwritten entries) old new

-- The files are these now; what was at rest is at rest.
pub record IsCommitted (after : Image) (old new : List ℕ → FileState) : Type 0 where
  pub made : SameFiles (contents new) after
  pub rest : IsAtRest old → IsAtRest new

-- What a commit does that is to make these files, and to leave some alone, where the disk is honest
-- after it.
pub record CommitsOver {D A E : Type 0} (g : Ghosts D) (after : Image) (Alone : List ℕ → Type 0)
    (old new : D) (result : Result A E) : Type 0 where
  pub done : OnOk result (IsCommitted after (g.files old) (g.files new))
  -- where all was on the disk: what a crash at any moment since the call began leaves
  pub any_moment : IsAtRest (g.files old)
      → LeavesOver g old new (IsBeforeOrAfter (contents (g.files old)) after)
  -- after a failure too, it may be opened again
  pub recoverable : IsAtRest (g.files old) → IsRecoverable (g.files new)
  pub alone : LeavesAlone g Alone old new

-- What a commit of entries does, where the disk is honest after it: the files become what the
-- entries make of them, and the record stays after the closed gate.
pub record CommitsEntriesOver {D : Type 0} (g : Ghosts D) (entries : List Entry) (old new : D)
    (result : Result (Unit {0}) DiskFault) : Type 0 where
  pub commits : CommitsOver g (replayed entries (contents (g.files old))) (IsUnwritten entries)
      old new result
  pub closed : OnOk result (IsClosedOver entries (g.files new))
  -- where a crash leaves each file as the entries allow
  pub left : IsAtRest (g.files old)
      → EachTakes true entries (replayed entries (contents (g.files old))) (g.files old)
      → PassesOver g old new IsLeft

-- Calls over a disk that apply an entry to its file, all of it or a part: at each moment, and now,
-- the entry makes the same text of whatever a crash leaves of the file, if it did so at the start.
abbrev pub AppliesOver : {D : Type 0} → Ghosts D → Entry → D → D → Type 0
AppliesOver g entry old new =
    (keep : Bool) (to : List ℕ) → EachMadeBy keep entry to (g.files old entry.name)
    → Applies keep entry to (g.instant old) (g.instant new) (g.left_since old) (g.left_since new)
    (g.files old) (g.files new)

-- The same of a record and its files, if the journal is on the disk.
abbrev pub TakesOver : {D : Type 0} → Ghosts D → List Entry → D → D → Type 0
TakesOver g entries old new =
    IsStable (g.files old journal_name)
    → (keep : Bool) (texts : Image) → EachTakes keep entries texts (g.files old)
    → Replays keep entries texts (g.instant old) (g.instant new) (g.left_since old)
    (g.left_since new) (g.files old) (g.files new)
