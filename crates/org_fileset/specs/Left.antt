-- A file of which a crash leaves nothing but what its entry allows.
use Rattle.std.specs.Prelude.{◌≡◌, ℕ, ◌+◌, ◌-◌, ◌<◌, ◌≤◌, min, max, List, length, drop, slice_index, Some, IfSome, IsSomeAnd, IsTrue}
use Rattle.std.specs.List.{AllByRecursion}
use Rattle.org_disk.specs.Disk.{AreImages, FileState, IsFixed}
use Rattle.org_splice.specs.Patches.{last_end}
use Rattle.org_splice.specs.Texts.{pairs_of}
use Rattle.org_journal.specs.declared.record.Before.{Before}
use Rattle.org_journal.specs.declared.record.Entry.{Entry}
use Rattle.org_disk.specs.Names.{journal_name}
use Rattle.org_journal.specs.Gate.{is_open}
use Rattle.org_journal.specs.Left.{first_from, is_left}
use Rattle.org_journal.specs.Reading.{journal_at}
use Rattle.org_journal.specs.Recovered.{Image}

-- the file has these bytes from this place on, and each of them is fixed
abbrev pub HoldsFixed : ℕ → List ℕ → FileState → Type 0
HoldsFixed from context file = (i : ℕ) → i < length context
    → IsFixed file (from + i) × (slice_index file.content (from + i) ≡ slice_index context i)

-- The lengths that a crash may leave lie between the old one and the final one, and the contexts
-- are fixed.
pub record StaysLeft (before : Before) (patches : List (ℕ × List ℕ)) (final : ℕ) (file : FileState)
    : Type 0 where
  pub low : min before.length final ≤ file.least
  pub high : file.greatest ≤ max before.length final
  pub begins : length before.leading ≤ first_from patches
  pub leading : HoldsFixed (first_from patches - length before.leading) before.leading file
  pub trailing : HoldsFixed (last_end 0 patches) before.trailing file
  pub ends : last_end 0 patches + length before.trailing ≤ final

-- .. of an entry that says what its file was before
abbrev pub StaysLeftBy : Entry → FileState → Type 0
StaysLeftBy entry file = IsSomeAnd entry.before
    (λ before. StaysLeft before (pairs_of entry.patches) entry.length file)

-- the contexts of an entry lie within its file, also once it is cut
abbrev pub HasRoom : Entry → Type 0
HasRoom entry = IfSome entry.before
    (λ before. last_end 0 (pairs_of entry.patches) + length before.trailing ≤ entry.length)

-- the text is as a crash may have left it, whatever the entry's calls did
pub record IsLeftBy (entry : Entry) (text : List ℕ) : Type 0 where
  pub room : HasRoom entry
  pub left : IsTrue (is_left entry text)

-- an open journal's record finds each of its files as a crash may have left it
abbrev pub IsLeft : Image → Type 0
IsLeft image = IsTrue (is_open (image journal_name)) → (entries : List Entry)
    → journal_at (drop 1 (image journal_name)) ≡ Some entries
    → AllByRecursion (λ entry. IsLeftBy entry (image entry.name)) entries

-- so is whatever a crash leaves of these files
abbrev pub EachIsLeft : (List ℕ → FileState) → Type 0
EachIsLeft files = (image : Image) → AreImages files image → IsLeft image
