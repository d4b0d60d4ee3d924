-- The entries of changed files.
use Rattle.std.proofs.Common.{◌≡◌, ◌+◌, ◌++◌, ◌<◌, ◌^◌, ℕ, List, [], ◌∷◌, length, take, Some, refl, sym, ◌∙◌, ap, subst}
use Rattle.std.specs.Prelude.{slice_get, IsSomeAnd, IsUtf8}
use Rattle.std.proofs.lemmas.List.{take_more}
use Rattle.std.proofs.lemmas.Option.{get_or_from_slice_get, slice_get_within}
use Rattle.org_disk.specs.Names.{IsDiskName}
use Rattle.org_splice.specs.Patches.{AreWellFormed, PatchedTo}
use Rattle.org_splice.specs.Texts.{EditedText, IsEditOf, pairs_of}
use Rattle.org_journal.specs.declared.record.Entry.{Entry}
use Rattle.org_splice.specs.declared.patch.Patch.{Patch}
use Rattle.org_fileset.specs.Entries.{IsEntryOf, AreEntriesOf, SaySizes, before_of}

pub entry_is : (change : List ℕ × EditedText) (entry : Entry) (patches : List Patch) → entry.name ≡ change.0 → IsUtf8 change.0 → IsDiskName change.0
    → entry.length ≡ length change.1.bytes → entry.patches ≡ patches → AreWellFormed (pairs_of patches) (length change.1.bytes)
    → ((old : List ℕ) → IsEditOf old change.1 → PatchedTo (pairs_of patches) (length change.1.bytes) old change.1.bytes)
    → (size : ℕ) → size < 2 ^ 64 → entry.before ≡ Some (before_of size (pairs_of patches) change.1.bytes) → IsEntryOf change entry
entry_is change entry patches named text valid long same formed makes size sized before = record {
  name = named;
  text = subst IsUtf8 (sym named) text;
  valid = subst IsDiskName (sym named) valid;
  length_is = long;
  patches = rw (same, long) formed;
  makes = λ old edit. rw (same, long) (makes old edit);
  before = rw (before, same) (sized, refl);
}

pub entries_more : (changes : List (List ℕ × EditedText)) (entries : List Entry) (change : List ℕ × EditedText) (entry : Entry) → AreEntriesOf changes entries → IsEntryOf change entry
    → AreEntriesOf (changes ++ change ∷ []) (entries ++ entry ∷ [])
entries_more [] [] change entry are is = (is, tt)
entries_more (c ∷ changes) (e ∷ entries) change entry are is = (are.0, entries_more changes entries change entry are.1 is)
entries_more [] (e ∷ entries) change entry are is = absurd are
entries_more (c ∷ changes) [] change entry are is = absurd are

-- the same, one place further in the set
pub entries_next : (changes : List (List ℕ × EditedText)) (entries new : List Entry) (i : ℕ) (change : List ℕ × EditedText) (entry : Entry) → AreEntriesOf (take i changes) entries
    → slice_get changes i ≡ Some change → IsEntryOf change entry → new ≡ entries ++ entry ∷ [] → AreEntriesOf (take (i + 1) changes) new
entries_next changes entries new i change entry are at is pushed =
    let more : take (i + 1) changes ≡ take i changes ++ change ∷ [] =
    take_more changes i change (slice_get_within changes i change at) ∙ ap (λ (x : List ℕ × EditedText). take i changes ++ x ∷ []) (get_or_from_slice_get changes i change change at) in
    subst (λ (l : List Entry). AreEntriesOf (take (i + 1) changes) l) (sym pushed)
    (subst (λ (l : List (List ℕ × EditedText)). AreEntriesOf l (entries ++ entry ∷ [])) (sym more) (entries_more (take i changes) entries change entry are is))

-- the same of what they say of their files
pub sizes_more : (sizes : List ℕ → ℕ) (entries new : List Entry) (entry : Entry) → SaySizes sizes entries → IsSomeAnd entry.before (λ before. before.length ≡ sizes entry.name)
    → new ≡ entries ++ entry ∷ [] → SaySizes sizes new
sizes_more sizes entries new entry say is pushed = subst (SaySizes sizes) (sym pushed) (go entries say)
  where
    go : (entries : List Entry) → SaySizes sizes entries → SaySizes sizes (entries ++ entry ∷ [])
    go [] say = (is, tt)
    go (first ∷ entries) say = (say.0, go entries say.1)
