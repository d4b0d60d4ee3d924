-- Refiles keep how often each node is there over all files of a store.
use Rattle.std.proofs.Common.{◌≡◌, ◌≢◌, inl, inr, ℕ, ◌+◌, ◌-◌, ◌^◌, ◌==◌, Bool, true, false, List, [], ◌∷◌, length, map, Option, Some, None, Result, Ok, Err, refl, sym, ◌∙◌, ap, subst, if◌then◌else◌, arith}
use Rattle.std.specs.List.{AllByRecursion, IsDistinct, sum_by}
use Rattle.std.specs.Str.{bytes_eq}
use Rattle.std.proofs.lemmas.Bool.{false≢true}
use Rattle.std.proofs.lemmas.Map.Keys.{IsDistinct-head, IsDistinct-tail}
use Rattle.std.proofs.lemmas.List.Sums.{sum_by-cons}
use Rattle.org_disk.proofs.Names.{name_cases, same_name}
use Rattle.org_outline.specs.declared.steps.Step.{Step}
use Rattle.org_outline.specs.declared.moves.Place.{Place}
use Rattle.org_outline.specs.Tree.{Document, IsValid, print, tree}
use Rattle.org_outline.proofs.Trees.{tree-is}
use Rattle.org_outline.proofs.Valid.{tree-print}
use Rattle.org_fault.specs.declared.refusal.Refusal.{Refusal}
use Rattle.org_move.specs.Counts.{count_in, count_over}
use Rattle.org_move.specs.Refile.{Moved, refile_across, refile_within}
use Rattle.org_move.proofs.Kept.{across_counts, across_valid, within_counts, within_valid}
use Rattle.org_fault.specs.declared.refusal.Refusal.TheVariants.{TooLarge}
use Rattle.org_commands.specs.Files.{has_large}
use Rattle.org_commands.specs.InOrder.{is_name, text_at, with_all, with_text}
use Rattle.org_commands.specs.Outcome.{Accepts, Refuses, changed, refile, with_moved}
use Rattle.org_commands.specs.Refile.{text_within, texts_across}
use Rattle.org_commands.specs.Session.{Session}

-- ---- one text is new

pub not_again : (one : List ℕ) (names : List (List ℕ)) → AllByRecursion (λ other. bytes_eq one other ≡ false) names → is_name names one ≡ false
not_again one [] apart = refl
not_again one (other ∷ names) apart = elim (name_cases other one) [
  | inl is ↦
      let no : bytes_eq one one ≡ false = subst (λ (n : List ℕ). bytes_eq one n ≡ false) is.0 apart.0 in
      absurd (false≢true (sym no ∙ same_name one))
  | inr not ↦ let f = not.1 in rw f (not_again one names apart.1)
]

untouched : (names texts : List (List ℕ)) (name new : List ℕ) → length texts ≡ length names → is_name names name ≡ false → with_text names texts name new ≡ texts
untouched [] [] name new same out = refl
untouched [] (text ∷ texts) name new same out = absurd (cc)
untouched (one ∷ names) [] name new same out = absurd (cc)
untouched (one ∷ names) (text ∷ texts) name new same out = elim (name_cases one name) [
  | inl is ↦ let t = is.1 in absurd (false≢true (sym (rw t at out)))
  | inr not ↦ let f = not.1 in rw f (ap (λ (ts : List (List ℕ)). text ∷ ts) (untouched names texts name new (omega (arith, same)) (rw f at out)))
]

pub sum_put : (weight : List ℕ → ℕ) (names texts : List (List ℕ)) (name old new : List ℕ) → IsDistinct bytes_eq names → length texts ≡ length names → text_at names texts name ≡ Some old
    → sum_by weight (with_text names texts name new) + weight old ≡ sum_by weight texts + weight new
sum_put weight [] texts name old new apart same at = absurd (cc)
sum_put weight (one ∷ names) [] name old new apart same at = absurd (cc)
sum_put weight (one ∷ names) (text ∷ texts) name old new apart same at = elim (name_cases one name) [
  | inl is ↦
      let t = is.1 in
      let here : Some text ≡ Some old = rw t at at in
      let own : text ≡ old = cc in
      let out : is_name names name ≡ false = subst (λ (n : List ℕ). is_name names n ≡ false) is.0 (not_again one names (IsDistinct-head bytes_eq one names apart)) in
      let rest = ap (sum_by weight) (untouched names texts name new (omega (arith, same)) out) in
      let weighs = ap weight own in
      rw t (omega (arith, rest, weighs, sum_by-cons weight new (with_text names texts name new), sum_by-cons weight text texts))
  | inr not ↦
      let f = not.1 in
      let there : text_at names texts name ≡ Some old = rw f at at in
      let more = sum_put weight names texts name old new (IsDistinct-tail bytes_eq one names apart) (omega (arith, same)) there in
      rw f (omega (arith, more, sum_by-cons weight text (with_text names texts name new), sum_by-cons weight text texts))
]

pub still_at : (names texts : List (List ℕ)) (name other new : List ℕ) → name ≢ other → text_at names (with_text names texts name new) other ≡ text_at names texts other
still_at [] texts name other new apart = refl
still_at (one ∷ names) [] name other new apart = refl
still_at (one ∷ names) (text ∷ texts) name other new apart = elim (name_cases one other) [
  | inl is ↦
      let t = is.1 in
      elim (name_cases one name) [
        | inl same ↦ absurd (apart (sym same.0 ∙ is.0))
        | inr not ↦ let f = not.1 in rw (t, f) refl
      ]
  | inr not ↦ let f = not.1 in rw f (still_at names texts name other new apart)
]

pub still_long : (names texts : List (List ℕ)) (name new : List ℕ) → length texts ≡ length names → length (with_text names texts name new) ≡ length names
still_long [] texts name new same = refl
still_long (one ∷ names) [] name new same = absurd (cc)
still_long (one ∷ names) (text ∷ texts) name new same = let more = still_long names texts name new (omega (arith, same)) in omega (arith, more)

-- ---- a refile

pub accepted_are : (s : Session) (changes : List (List ℕ × List ℕ)) {touched : List (List ℕ)} (files : List (List ℕ)) → changed s changes ≡ Accepts touched files → with_all s.names s.files changes ≡ files
accepted_are s changes {touched} files = go (has_large changes) (s.accepted == 2 ^ 64 - 1)
  where
    go : (large full : Bool) → (if large then Refuses TooLarge else if full then Refuses TooLarge else Accepts (map (λ change. change.0) changes) (with_all s.names s.files changes)) ≡ Accepts touched files → with_all s.names s.files changes ≡ files
    go true full accepts = absurd (cc)
    go false true accepts = absurd (cc)
    go false false accepts = cc

module _ (s : Session) (apart : IsDistinct bytes_eq s.names) (each : length s.files ≡ length s.names) (rest : List ℕ) (section : List (List ℕ)) where
  abbrev pub weight : List ℕ → ℕ
  weight text = count_in rest section (tree text)

  pub again : (d : Document) → IsValid d → weight (print d) ≡ count_in rest section d
  again d valid = ap (count_in rest section) (tree-print d valid)

  within_keeps : (file : List ℕ) (path to : List Step) (place : Place) (text : List ℕ) {touched : List (List ℕ)} (files : List (List ℕ)) (said : Result Document Refusal) → text_at s.names s.files file ≡ Some text
      → refile_within s.states path to place (tree text) ≡ said → with_moved s (text_within file) said ≡ Accepts touched files → count_over rest section files ≡ count_over rest section s.files
  within_keeps file path to place text files (Err why) at is accepts = absurd (cc)
  within_keeps file path to place text files (Ok new) at is accepts =
      let made : with_text s.names s.files file (print new) ≡ files = accepted_are s (text_within file new) files accepts in
      omega (
        arith,
        ap (sum_by weight) made,
        sum_put weight s.names s.files file text (print new) apart each at,
        again new (within_valid s.states path to place (tree text) new is (tree-is text).valid),
        within_counts s.states path to place (tree text) new is rest section,
      )

  across_keeps : (file : List ℕ) (path : List Step) (to_file : List ℕ) (to : List Step) (place : Place) (text target : List ℕ) {touched : List (List ℕ)} (files : List (List ℕ)) (said : Result Moved Refusal) → file ≢ to_file
      → text_at s.names s.files file ≡ Some text → text_at s.names s.files to_file ≡ Some target → refile_across s.states path (tree text) s.states to (tree target) place ≡ said
      → with_moved s (texts_across file to_file) said ≡ Accepts touched files → count_over rest section files ≡ count_over rest section s.files
  across_keeps file path to_file to place text target files (Err why) different at there is accepts = absurd (cc)
  across_keeps file path to_file to place text target files (Ok new) different at there is accepts =
      let left = with_text s.names s.files file (print new.source) in
      let made : with_text s.names left to_file (print new.target) ≡ files = accepted_are s (texts_across file to_file new) files accepts in
      let valid = across_valid s.states s.states path to place (tree text) (tree target) new is (tree-is text).valid (tree-is target).valid in
      omega (
        arith,
        ap (sum_by weight) made,
        sum_put weight s.names s.files file text (print new.source) apart each at,
        sum_put weight s.names left to_file target (print new.target) apart (still_long s.names s.files file (print new.source) each) (still_at s.names s.files file to_file (print new.source) different ∙ there),
        again new.source valid.0,
        again new.target valid.1,
        across_counts s.states s.states path to place (tree text) (tree target) new is rest section,
      )

  pub refile_keeps : (file : List ℕ) (path : List Step) (to_file : List ℕ) (to : List Step) (place : Place) (old into : Option (List ℕ)) {touched : List (List ℕ)} (files : List (List ℕ)) → text_at s.names s.files file ≡ old
      → text_at s.names s.files to_file ≡ into → refile s file path to_file to place old into ≡ Accepts touched files → count_over rest section files ≡ count_over rest section s.files
  refile_keeps file path to_file to place None into files at there accepts = absurd (cc)
  refile_keeps file path to_file to place (Some text) None files at there accepts = absurd (cc)
  refile_keeps file path to_file to place (Some text) (Some target) files at there accepts = elim (name_cases file to_file) [
    | inl is ↦ let t = is.1 in within_keeps file path to place text files (refile_within s.states path to place (tree text)) at refl (rw t at accepts)
    | inr not ↦ let f = not.1 in across_keeps file path to_file to place text target files (refile_across s.states path (tree text) s.states to (tree target) place) not.0 at there refl (rw f at accepts)
  ]
