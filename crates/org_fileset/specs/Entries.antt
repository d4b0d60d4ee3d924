-- The entries of changed files.
use Rattle.std.specs.Prelude.{◌≡◌, ℕ, ◌-◌, ◌<◌, ◌^◌, ◌==◌, List, [], ◌∷◌, length, take, drop, slice_range, Some, IsSomeAnd, IsUtf8, if◌then◌else◌}
use Rattle.std.specs.List.{AllByRecursion}
use Rattle.std.specs.Str.{bytes_eq}
use Rattle.org_disk.specs.Names.{IsDiskName}
use Rattle.org_splice.specs.Patches.{AreWellFormed, PatchedTo, last_end}
use Rattle.org_splice.specs.Texts.{EditedText, IsEditOf, pairs_of}
use Rattle.org_journal.specs.declared.record.Before.{Before}
use Rattle.org_journal.specs.declared.record.Entry.{Entry}
use Rattle.org_journal.specs.Left.{first_from}
use Rattle.org_journal.specs.Record.{most_context}
use Rattle.org_journal.specs.Reading.{journal_at}
use Rattle.org_journal.specs.Recovered.{Image}

-- What an entry says of a file as it was before: it had this many bytes, and it was this text
-- before the first patch; and also after the last one, if its length stays.
abbrev pub before_of : ℕ → List (ℕ × List ℕ) → List ℕ → Before
before_of size patches text = record {
  length = size;
  leading = slice_range text (first_from patches - most_context) (first_from patches);
  trailing = if size == length text then take most_context (drop (last_end 0 patches) text)
      else [];
}

-- the entry makes the changed text of whatever it was made from
pub record IsEntryOf (change : List ℕ × EditedText) (entry : Entry) : Type 0 where
  pub name : entry.name ≡ change.0
  pub text : IsUtf8 entry.name
  pub valid : IsDiskName entry.name
  pub length_is : entry.length ≡ length change.1.bytes
  pub patches : AreWellFormed (pairs_of entry.patches) entry.length
  pub makes : (old : List ℕ) → IsEditOf old change.1
      → PatchedTo (pairs_of entry.patches) entry.length old change.1.bytes
  pub before : IsSomeAnd entry.before
      (λ before. (before.length < 2 ^ 64)
      × (before ≡ before_of before.length (pairs_of entry.patches) change.1.bytes))

abbrev pub AreEntriesOf : List (List ℕ × EditedText) → List Entry → Type 0
AreEntriesOf [] [] = Unit {0}
AreEntriesOf (change ∷ changes) (entry ∷ entries) =
    IsEntryOf change entry × AreEntriesOf changes entries
AreEntriesOf [] (entry ∷ entries) = ⊥
AreEntriesOf (change ∷ changes) [] = ⊥

-- each entry says of its file that it had this many bytes
abbrev pub SaySizes : (List ℕ → ℕ) → List Entry → Type 0
SaySizes sizes entries = AllByRecursion
    (λ entry. IsSomeAnd entry.before (λ before. before.length ≡ sizes entry.name)) entries

-- After its gate a journal of these bytes has the record of the changed files, in their order; of
-- none it needs none.
abbrev pub HasRecordOf : List (List ℕ × EditedText) → List ℕ → Type 0
HasRecordOf [] journal = Unit {0}
HasRecordOf (change ∷ changes) journal =
    (entries : List Entry)
    × AreEntriesOf (change ∷ changes) entries
    × (journal_at (drop 1 journal) ≡ Some entries)

-- the files with the changed texts in place of their own
abbrev pub changed : List (List ℕ × EditedText) → Image → Image
changed [] files name = files name
changed (change ∷ changes) files name =
    if bytes_eq change.0 name then change.1.bytes else changed changes files name

-- each changed file holds its text
abbrev pub HoldTexts : List (List ℕ × EditedText) → Image → Type 0
HoldTexts changes files = AllByRecursion (λ change. files change.0 ≡ change.1.bytes) changes
