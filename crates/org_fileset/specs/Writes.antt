-- Which files calls write.
use Rattle.std.specs.Prelude.{◌≡◌, ◌≢◌, ℕ, List, [], ◌∷◌, IsTrue, IsFalse, OnOk, Result, Some, drop}
use Rattle.org_disk.specs.declared.disk.Disk.{Ghosts}
use Rattle.std.specs.List.{list_any}
use Rattle.std.specs.Str.{bytes_eq}
use Rattle.org_disk.specs.declared.disk.DiskFault.{DiskFault}
use Rattle.org_disk.specs.Disk.{AreImages, FileState, IsImage}
use Rattle.org_disk.specs.CountsFailures.{LooksOver, PassesOver}
use Rattle.org_disk.specs.Names.{journal_name}
use Rattle.org_journal.specs.declared.record.Entry.{Entry}
use Rattle.org_journal.specs.Gate.{is_open, LeavesBody}
use Rattle.org_journal.specs.Reading.{journal_at}
use Rattle.org_journal.specs.Record.{is_named}
use Rattle.org_journal.specs.Recovered.{Image}

-- what is left has an image of each of these files
abbrev pub HasImagesOf : (List ℕ → Type 0) → (List ℕ → FileState) → Image → Type 0
HasImagesOf These files image = (name : List ℕ) → These name → IsImage (files name) (image name)

-- Calls leave these files alone: each is as it was, and a crash meanwhile leaves of it what it
-- might have left before.
pub record LeavesAlone {D : Type 0} (g : Ghosts D) (These : List ℕ → Type 0) (old new : D)
    : Type 0 where
  pub same : (name : List ℕ) → These name → g.files new name ≡ g.files old name
  pub time : PassesOver g old new (HasImagesOf These (g.files old))

-- A commit of the files of these names doesn't write the file of this name: there is nothing to
-- commit, or it is neither one of these nor the journal.
abbrev pub IsOther : List (List ℕ) → List ℕ → Type 0
IsOther [] name = Unit {0}
IsOther (first ∷ names) name =
    (name ≢ journal_name) × IsFalse (list_any (bytes_eq name) (first ∷ names))

-- the file of this name is neither the journal nor one of the record's
pub record IsUnwritten (entries : List Entry) (name : List ℕ) : Type 0 where
  pub apart : name ≢ journal_name
  pub unnamed : IsFalse (is_named name entries)

-- The file of this name isn't the journal, which has these bytes; nor does a record name it that
-- stands after an open gate.
pub record IsUnconcerned (journal : List ℕ) (name : List ℕ) : Type 0 where
  pub apart : name ≢ journal_name
  pub unnamed : IsTrue (is_open journal) → (entries : List Entry)
      → journal_at (drop 1 journal) ≡ Some entries
      → IsFalse (is_named name entries)

-- Calls that try the files of a record after a journal that is open over it, and close the gate
-- where one fails, where the disk is honest after them. After Ok they only looked. After a failure
-- each file but the journal has no other image than it had, and none but those of the record's was
-- called; what a crash leaves meanwhile recovers to the files as they were or, where the gate still
-- stands, to what the record makes of them.
pub record TriesAgainOver {D : Type 0} (g : Ghosts D) (entries : List Entry) (old new : D)
    (result : Result (Unit {0}) DiskFault) : Type 0 where
  pub ok : OnOk result (LooksOver g old new)
  pub time : PassesOver g old new (LeavesBody journal_name (g.files old))
  pub images : (name : List ℕ) → name ≢ journal_name → (bytes : List ℕ)
      → IsImage (g.files new name) bytes → IsImage (g.files old name) bytes
  pub others : (name : List ℕ) → IsUnwritten entries name → g.files new name ≡ g.files old name

-- Calls that try the journal and the files of a record, where the disk is honest after them. After
-- Ok they only looked. After a failure all other files are the same, and what a crash leaves of
-- each file, then or meanwhile, it might have left before.
pub record TriesOver {D : Type 0} (g : Ghosts D) (entries : List Entry) (old new : D)
    (result : Result (Unit {0}) DiskFault) : Type 0 where
  pub ok : OnOk result (LooksOver g old new)
  pub time : PassesOver g old new (AreImages (g.files old))
  pub images : (name bytes : List ℕ) → IsImage (g.files new name) bytes
      → IsImage (g.files old name) bytes
  pub others : (name : List ℕ) → IsUnwritten entries name → g.files new name ≡ g.files old name
