-- What an image recovers to, by what the record makes of each file.
use Rattle.std.proofs.Common.{arith, ◌≡◌, ◌≢◌, inl, inr, ℕ, suc, List, [], ◌∷◌, length, drop, max, Bool, true, false, Some, refl, sym, ◌∙◌, ap, subst}
use Rattle.std.proofs.lemmas.Grind.{common_steps}
use Rattle.std.specs.Prelude.{nat_le, if◌then◌else◌, IsSomeAnd, Option, None}
use Rattle.std.specs.Str.{bytes_eq}
use Rattle.std.proofs.lemmas.Bool.{cases_Bool, false≢true, and_parts, and_from, le-leb, leb-true, MatchBool-at_true, MatchBool-at_false}
use Rattle.org_disk.specs.Names.{journal_name}
use Rattle.org_disk.proofs.Names.{name_cases}
use Rattle.org_splice.specs.Patches.{end_of, last_end, BeginWithin, Fit}
use Rattle.org_splice.specs.Texts.{pairs_of}
use Rattle.org_journal.specs.declared.record.Entry.{Entry}
use Rattle.org_journal.specs.Gate.{is_open}
use Rattle.org_journal.specs.Reading.{journal_at}
use Rattle.org_journal.specs.Record.{is_named}
use Rattle.org_journal.specs.Recovered.{Image, begins_within, fits, all_fit, made_by, replayed, recovered, SameFiles, RecoversTo}
use Rattle.org_fileset.specs.Replay.{IsMadeBy, TakesTo, AreApplicable}
use Rattle.org_fileset.proofs.Takes.{TakesTo-entry, TakesTo-other}
use Rattle.org_fileset.proofs.Replaying.{not_journal}
use Rattle.std.specs.Prelude.{slice_get}

-- the test of fitting, and what it says
begins-true : (size place : ℕ) (patches : List (ℕ × List ℕ)) → BeginWithin size place patches → begins_within size place patches ≡ true
begins-true size place [] begin = refl
begins-true size place (patch ∷ patches) begin =
    and_from (nat_le patch.0 (max size place)) (begins_within size (end_of patch) patches) (le-leb patch.0 (max size place) begin.0) (begins-true size (end_of patch) patches begin.1)

true-begins : (size place : ℕ) (patches : List (ℕ × List ℕ)) → begins_within size place patches ≡ true → BeginWithin size place patches
true-begins size place [] is = tt
true-begins size place (patch ∷ patches) is =
    let parts = and_parts (nat_le patch.0 (max size place)) (begins_within size (end_of patch) patches) is in
    (leb-true patch.0 (max size place) parts.0, true-begins size (end_of patch) patches parts.1)

pub fits-true : (patches : List (ℕ × List ℕ)) (final size : ℕ) → Fit patches final size → fits patches final size ≡ true
fits-true patches final size fit =
    and_from (begins_within size 0 patches) (nat_le final (max size (last_end 0 patches))) (begins-true size 0 patches fit.begin) (le-leb final (max size (last_end 0 patches)) fit.ends)

pub true-fits : (patches : List (ℕ × List ℕ)) (final size : ℕ) → fits patches final size ≡ true → Fit patches final size
true-fits patches final size is = grind (arith, common_steps, and_parts, true-begins, leb-true)

-- what the record takes the file of a name to is what it makes of it
pub replayed-takes : (entries : List Entry) (image : Image) (name to : List ℕ) → TakesTo false entries name (image name) to → replayed entries image name ≡ to
replayed-takes [] image name to takes = takes
replayed-takes (entry ∷ entries) image name to takes = elim (cases_Bool (bytes_eq entry.name name)) [
  | inl same ↦ rw same (MatchBool-at_true (IsMadeBy false entry (image name) to) (TakesTo false entries name (image name) to) same takes).makes
  | inr other ↦ rw other (replayed-takes entries image name to (MatchBool-at_false (IsMadeBy false entry (image name) to) (TakesTo false entries name (image name) to) other takes))
]

-- and the other way, where each entry fits its file
pub takes-replayed : (entries : List Entry) (image : Image) (name to : List ℕ) → all_fit entries image ≡ true → replayed entries image name ≡ to → TakesTo false entries name (image name) to
takes-replayed [] image name to fit is = is
takes-replayed (entry ∷ entries) image name to fit is =
    let parts = and_parts (fits (pairs_of entry.patches) entry.length (length (image entry.name))) (all_fit entries image) fit in
    elim (name_cases entry.name name) [
      | inl same ↦
          let t : bytes_eq entry.name name ≡ true = same.1 in
          let made : made_by entry (image name) ≡ to =
          sym (ap (λ (b : Bool). if b then made_by entry (image name) else replayed entries image name) t) ∙ is in
          let fit_here : Fit (pairs_of entry.patches) entry.length (length (image name)) =
          subst (λ (n : List ℕ). Fit (pairs_of entry.patches) entry.length (length (image n))) same.0 (true-fits (pairs_of entry.patches) entry.length (length (image entry.name)) parts.0) in
          rw t (record { fit = fit_here; makes = made; left = λ t. absurd (false≢true t) })
      | inr other ↦
          let f : bytes_eq entry.name name ≡ false = other.1 in
          let rest : replayed entries image name ≡ to =
          sym (ap (λ (b : Bool). if b then made_by entry (image name) else replayed entries image name) f) ∙ is in
          rw f (takes-replayed entries image name to parts.1 rest)
    ]

-- each entry fits its file
all_fit-each : (entries : List Entry) (image : Image) → ((i : ℕ) (entry : Entry) → slice_get entries i ≡ Some entry → Fit (pairs_of entry.patches) entry.length (length (image entry.name)))
    → all_fit entries image ≡ true
all_fit-each [] image each = refl
all_fit-each (entry ∷ entries) image each =
    and_from (fits (pairs_of entry.patches) entry.length (length (image entry.name))) (all_fit entries image)
    (fits-true (pairs_of entry.patches) entry.length (length (image entry.name)) (each 0 entry refl)) (all_fit-each entries image (λ i e is. each (suc i) e is))

pub all_fit-takes : (entries : List Entry) (image texts : Image) → AreApplicable entries → ((name : List ℕ) → name ≢ journal_name → TakesTo false entries name (image name) (texts name)) → all_fit entries image ≡ true
all_fit-takes entries image texts applicable takes = all_fit-each entries image (λ i entry is.
    (TakesTo-entry entries i entry (image entry.name) (texts entry.name) applicable.apart is (takes entry.name (not_journal entries i entry applicable is))).fit)

-- with a closed gate an image recovers to its own files
pub recovers_closed : (texts image : Image) → is_open (image journal_name) ≡ false → SameFiles image texts → RecoversTo texts image
recovers_closed texts image shut same = rw shut same

-- with an open gate for what the record makes of them
pub recovers_open : (entries : List Entry) (texts image : Image) → AreApplicable entries → is_open (image journal_name) ≡ true → journal_at (drop 1 (image journal_name)) ≡ Some entries
    → ((name : List ℕ) → name ≢ journal_name → TakesTo false entries name (image name) (texts name)) → RecoversTo texts image
recovers_open entries texts image applicable opened found takes =
    let fit : all_fit entries image ≡ true = all_fit-takes entries image texts applicable takes in
    rw (opened, found, fit) (λ name not. replayed-takes entries image name (texts name) (takes name not))

-- and the other way
pub open_recovers : (entries : List Entry) (texts image : Image) → is_open (image journal_name) ≡ true → journal_at (drop 1 (image journal_name)) ≡ Some entries
    → RecoversTo texts image → (name : List ℕ) → name ≢ journal_name → TakesTo false entries name (image name) (texts name)
open_recovers entries texts image opened found stand name not = grind (arith, common_steps, cases_Bool, takes-replayed)

-- what the record makes of the file of an entry is what the entry makes
pub replayed-entry : (entries : List Entry) (image : Image) (i : ℕ) (entry : Entry) → AreApplicable entries → all_fit entries image ≡ true → slice_get entries i ≡ Some entry
    → IsMadeBy false entry (image entry.name) (replayed entries image entry.name)
replayed-entry entries image i entry applicable fit is =
    TakesTo-entry entries i entry (image entry.name) (replayed entries image entry.name) applicable.apart is (takes-replayed entries image entry.name (replayed entries image entry.name) fit refl)

-- and of a file that it doesn't name, the file
pub replayed-other : (entries : List Entry) (image : Image) (name : List ℕ) → all_fit entries image ≡ true → is_named name entries ≡ false → image name ≡ replayed entries image name
replayed-other entries image name fit none = TakesTo-other entries name (image name) (replayed entries image name) none (takes-replayed entries image name (replayed entries image name) fit refl)

-- it recovers to files that agree with those that it recovers to
pub recovers_as : (first second image : Image) → SameFiles first second → RecoversTo first image → RecoversTo second image
recovers_as first second image same = go (recovered image)
  where
    go : (o : Option Image) → IsSomeAnd o (λ found. SameFiles found first) → IsSomeAnd o (λ found. SameFiles found second)
    go (Some found) is = λ name not. is name not ∙ same name not
    go None is = is
