-- The record of a set of changes fits its files, and makes the changed texts of them.
use Rattle.std.proofs.Common.{◌≡◌, ◌≢◌, inl, inr, ⊎_elim, ◌≤◌, ℕ, List, [], ◌∷◌, length, true, false, not, Option, Some, None, refl, sym, ◌∙◌, ap, subst, arith}
use Rattle.std.specs.Prelude.{IsSomeAnd, IsTrue}
use Rattle.std.specs.List.{AllByRecursion, IsDistinct}
use Rattle.std.specs.Map.{keys_of}
use Rattle.std.specs.Str.{bytes_eq}
use Rattle.std.proofs.lemmas.Bool.{and_from, false≢true}
use Rattle.std.proofs.lemmas.Map.Keys.{IsDistinct-tail, IsDistinct-head}
use Rattle.org_disk.specs.Names.{is_file_name, journal_name}
use Rattle.org_disk.proofs.Names.{name_cases, same_name}
use Rattle.org_splice.specs.Patches.{PatchedTo, patched}
use Rattle.org_splice.specs.Texts.{EditedText, IsEditOf, pairs_of}
use Rattle.org_journal.specs.declared.record.Before.{Before}
use Rattle.org_journal.specs.declared.record.Entry.{Entry}
use Rattle.org_journal.specs.declared.record.Version.TheVariants.{Two}
use Rattle.org_journal.specs.Record.{is_named, names_differ, greatest_length}
use Rattle.org_journal.specs.Recovered.{Image, fits, all_fit, kept_by, made_by, replayed}
use Rattle.org_journal.proofs.Cutting.{kept_short}
use Rattle.org_fileset.specs.Entries.{IsEntryOf, AreEntriesOf, SaySizes, changed}
use Rattle.org_fileset.specs.Replay.{IsApplicable, AreApplicable}
use Rattle.org_fileset.proofs.Recovers.{fits-true}

abbrev Change : Type 0
Change = List ℕ × EditedText

-- what holds of a change that is to be committed: its file is one of the set's, and its text within
-- the limit
abbrev pub IsCommittable : Change → Type 0
IsCommittable change = (change.0 ≢ journal_name) × (length change.1.bytes ≤ greatest_length Two)

-- an entry's name is a file's, as it isn't the journal's
pub file_named : (change : Change) (entry : Entry) → IsEntryOf change entry → change.0 ≢ journal_name → IsTrue (is_file_name entry.name)
file_named change entry is not = ⊎_elim (λ accepted. accepted) (λ same. absurd (not (sym is.name ∙ same))) is.valid

each_applicable : (changes : List Change) (entries : List Entry) → AreEntriesOf changes entries → AllByRecursion IsCommittable changes → AllByRecursion IsApplicable entries
each_applicable [] [] are can = tt
each_applicable (change ∷ changes) (entry ∷ entries) are can = (
  record {
    name = file_named change entry are.0 can.0.0;
    patches = are.0.patches;
    small = omega (arith, are.0.length_is, can.0.1);
  },
  each_applicable changes entries are.1 can.1,
)
each_applicable [] (entry ∷ entries) are can = absurd are
each_applicable (change ∷ changes) [] are can = absurd are

-- a name that is no key is no entry's
no_entry : (name : List ℕ) (changes : List Change) (entries : List Entry) → AreEntriesOf changes entries → AllByRecursion (λ key. bytes_eq name key ≡ false) (keys_of changes) → is_named name entries ≡ false
no_entry name [] [] are none = refl
no_entry name (change ∷ changes) (entry ∷ entries) are none = elim (name_cases entry.name name) [
  | inl same ↦
      let key : name ≡ change.0 = sym same.0 ∙ are.0.name in
      let here : bytes_eq name change.0 ≡ true = ap (λ (n : List ℕ). bytes_eq n change.0) key ∙ same_name change.0 in
      absurd (false≢true (sym none.0 ∙ here))
  | inr other ↦ let e : bytes_eq entry.name name ≡ false = other.1 in rw e (no_entry name changes entries are.1 none.1)
]
no_entry name [] (entry ∷ entries) are none = absurd are
no_entry name (change ∷ changes) [] are none = absurd are

entries_differ : (changes : List Change) (entries : List Entry) → AreEntriesOf changes entries → IsDistinct bytes_eq (keys_of changes) → names_differ entries ≡ true
entries_differ [] [] are distinct = refl
entries_differ (change ∷ changes) (entry ∷ entries) are distinct =
    let none : is_named entry.name entries ≡ false =
    no_entry entry.name changes entries are.1 (subst (λ (n : List ℕ). AllByRecursion (λ key. bytes_eq n key ≡ false) (keys_of changes)) (sym are.0.name) (IsDistinct-head bytes_eq change.0 (keys_of changes) distinct)) in
    and_from (not (is_named entry.name entries)) (names_differ entries) (ap not none) (entries_differ changes entries are.1 (IsDistinct-tail bytes_eq change.0 (keys_of changes) distinct))
entries_differ [] (entry ∷ entries) are distinct = absurd are
entries_differ (change ∷ changes) [] are distinct = absurd are

pub changes_applicable : (changes : List Change) (entries : List Entry) → AreEntriesOf changes entries → IsDistinct bytes_eq (keys_of changes) → AllByRecursion IsCommittable changes → AreApplicable entries
changes_applicable changes entries are distinct can = record { each = each_applicable changes entries are can; apart = entries_differ changes entries are distinct }

-- each text is an edit of its file's
pub changes_fit : (changes : List Change) (entries : List Entry) (files : Image) → AreEntriesOf changes entries → AllByRecursion (λ (change : Change). IsEditOf (files change.0) change.1) changes → all_fit entries files ≡ true
changes_fit [] [] files are edits = refl
changes_fit (change ∷ changes) (entry ∷ entries) files are edits =
    let applies : PatchedTo (pairs_of entry.patches) entry.length (files entry.name) change.1.bytes =
    subst (λ (n : List ℕ). PatchedTo (pairs_of entry.patches) entry.length (files n) change.1.bytes) (sym are.0.name) (are.0.makes (files change.0) edits.0) in
    and_from (fits (pairs_of entry.patches) entry.length (length (files entry.name))) (all_fit entries files)
    (fits-true (pairs_of entry.patches) entry.length (length (files entry.name)) applies.fit) (changes_fit changes entries files are.1 edits.1)
changes_fit [] (entry ∷ entries) files are edits = absurd are
changes_fit (change ∷ changes) [] files are edits = absurd are

-- an entry that says how long its file is gets the final length
pub said_kept : (before : Option Before) (final size : ℕ) → IsSomeAnd before (λ b. b.length ≡ size) → kept_by before final size ≡ final
said_kept None final size says = absurd says
said_kept (Some before) final size says = kept_short before final size (omega (arith, says))

-- and makes the changed text
change_made : (change : Change) (entry : Entry) (text : List ℕ) → IsEntryOf change entry → IsEditOf text change.1 → IsSomeAnd entry.before (λ b. b.length ≡ length text) → made_by entry text ≡ change.1.bytes
change_made change entry text is edit says = ap (λ (n : ℕ). patched (pairs_of entry.patches) n text) (said_kept entry.before entry.length (length text) says) ∙ (is.makes text edit).makes

-- the record makes the changed texts
pub changes_made : (changes : List Change) (entries : List Entry) (files : Image) (name : List ℕ) → AreEntriesOf changes entries → SaySizes (λ n. length (files n)) entries
    → AllByRecursion (λ (change : Change). IsEditOf (files change.0) change.1) changes → replayed entries files name ≡ changed changes files name
changes_made [] [] files name are says edits = refl
changes_made (change ∷ changes) (entry ∷ entries) files name are says edits = elim (name_cases change.0 name) [
  | inl same ↦
      let e : bytes_eq entry.name name ≡ true = ap (λ (n : List ℕ). bytes_eq n name) are.0.name ∙ same.1 in
      let f : bytes_eq change.0 name ≡ true = same.1 in
      rw (e, f) (ap (λ (n : List ℕ). made_by entry (files n)) (sym same.0)
      ∙ change_made change entry (files change.0) are.0 edits.0 (subst (λ (n : List ℕ). IsSomeAnd entry.before (λ b. b.length ≡ length (files n))) are.0.name says.0))
  | inr other ↦
      let e : bytes_eq entry.name name ≡ false = ap (λ (n : List ℕ). bytes_eq n name) are.0.name ∙ other.1 in
      let f : bytes_eq change.0 name ≡ false = other.1 in
      rw (e, f) (changes_made changes entries files name are.1 says.1 edits.1)
]
changes_made [] (entry ∷ entries) files name are says edits = absurd are
changes_made (change ∷ changes) [] files name are says edits = absurd are
