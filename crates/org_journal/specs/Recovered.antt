-- What an image of a disk recovers to: with an open gate, what the journal's record makes of the
-- files; else the files themselves. And when a disk is recoverable.
use Rattle.std.specs.Prelude.{◌≡◌, ◌≢◌, ◌⊎◌, ℕ, Bool, true, ◌&&◌, IsTrue, IsFalse, nat_le, nat_lt, max, List, [], ◌∷◌, length, drop, Option, Some, None, IsSomeAnd, if◌then◌else◌}
use Rattle.std.specs.List.{list_all}
use Rattle.std.specs.Str.{bytes_eq}
use Rattle.org_disk.specs.Disk.{FileState, IsImage, IsStable, AreImages}
use Rattle.org_disk.specs.Names.{journal_name}
use Rattle.org_splice.specs.Patches.{end_of, last_end, patched}
use Rattle.org_splice.specs.Texts.{pairs_of}
use Rattle.org_journal.specs.declared.record.Before.{Before}
use Rattle.org_journal.specs.declared.record.Entry.{Entry}
use Rattle.org_journal.specs.Gate.{is_open}
use Rattle.org_journal.specs.Record.{is_named}
use Rattle.org_journal.specs.Reading.{◌>>=◌, journal_at}

-- the bytes of each file, by its name
abbrev pub Image : Type 0
Image = List ℕ → List ℕ

-- no patch begins after both the end of a text of this size and the end of the patch before
abbrev pub begins_within : (size place : ℕ) → List (ℕ × List ℕ) → Bool
begins_within size place [] = true
begins_within size place (patch ∷ patches) =
    nat_le patch.0 (max size place) && begins_within size (end_of patch) patches

-- the patches and the final length fit a text of this size
abbrev pub fits : List (ℕ × List ℕ) → (final size : ℕ) → Bool
fits patches final size =
    begins_within size 0 patches && nat_le final (max size (last_end 0 patches))

-- each entry fits its file
abbrev pub all_fit : List Entry → Image → Bool
all_fit entries image =
    list_all (λ entry. fits (pairs_of entry.patches) entry.length
    (length (image entry.name))) entries

-- A replay may cut a file to its final length: it was longer before, or its entry doesn't say how
-- long it was.
abbrev pub may_cut : Option Before → (final : ℕ) → Bool
may_cut None final = true
may_cut (Some before) final = nat_lt final before.length

-- how many bytes a replay keeps of a file of this size: where it doesn't cut, what another program
-- put after the end stays
abbrev pub kept_by : Option Before → (final size : ℕ) → ℕ
kept_by before final size = if may_cut before final then final else max final size

-- what an entry makes of a text
abbrev pub made_by : Entry → List ℕ → List ℕ
made_by entry text = patched (pairs_of entry.patches)
    (kept_by entry.before entry.length (length text)) text

-- the files that entries make of these: each has its patches applied to it
abbrev pub replayed : List Entry → Image → Image
replayed [] image name = image name
replayed (entry ∷ entries) image name =
    if bytes_eq entry.name name then made_by entry (image name) else replayed entries image name

-- what an image recovers to; nothing where its journal is bad
abbrev pub recovered : Image → Option Image
recovered image = if is_open (image journal_name) then (do
  entries ← journal_at (drop 1 (image journal_name))
  if all_fit entries image then Some (replayed entries image) else None)
    else Some image

-- the same bytes of each file but the journal
abbrev pub SameFiles : Image → Image → Type 0
SameFiles one other = (name : List ℕ) → name ≢ journal_name → one name ≡ other name

-- the image recovers to these files
abbrev pub RecoversTo : Image → Image → Type 0
RecoversTo files image = IsSomeAnd (recovered image) (λ found. SameFiles found files)

-- what a read gives of each file
abbrev pub contents : (List ℕ → FileState) → Image
contents files name = (files name).content

-- whatever a crash leaves of the journal, its gate is open over one record; the files that it does
-- not name are on the disk, and whatever a crash leaves of the others, it recovers to the same files
pub record IsOpenOverRecord (files : List ℕ → FileState) : Type 0 where
  pub entries : List Entry
  pub opened : (bytes : List ℕ) → IsImage (files journal_name) bytes → IsTrue (is_open bytes)
  pub found : (bytes : List ℕ) → IsImage (files journal_name) bytes
      → journal_at (drop 1 bytes) ≡ Some entries
  pub others : (name : List ℕ) → name ≢ journal_name → IsFalse (is_named name entries)
      → IsStable (files name)
  pub texts : Image
  pub same : (image : Image) → AreImages files image → RecoversTo texts image

-- all files but the journal are on the disk
abbrev pub OthersStable : (List ℕ → FileState) → Type 0
OthersStable files = (name : List ℕ) → name ≢ journal_name → IsStable (files name)

-- Recoverable: all files but the journal are on the disk, or a record is being applied to them
-- under an open gate.
abbrev pub IsRecoverable : (List ℕ → FileState) → Type 0
IsRecoverable files = OthersStable files ⊎ IsOpenOverRecord files
