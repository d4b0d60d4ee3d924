-- Bytes that pass a test, and bytes beside them that don't begin or end with such.
use Rattle.std.proofs.Common.{◌≡◌, ℕ, zero, suc, ◌+◌, ◌-◌, Bool, true, false, List, [], ◌∷◌, ◌++◌, length, take, refl, sym, ap, ◌∙◌, arith, eqb, inl, inr}
use Rattle.std.proofs.lemmas.Grind.{common_steps}
use Rattle.std.specs.Prelude.{reverse}
use Rattle.std.specs.List.{prefix_len, suffix_len, list_all}
use Rattle.std.proofs.lemmas.Bool.{cases_Bool, eqb-true}
use Rattle.std.proofs.lemmas.List.{length-append, length-reverse, reverse-append, reverse-reverse, take_at, drop_at}
use Rattle.std.proofs.lemmas.List.Folds.{list_all-append}
use Rattle.org_splice.specs.Blanks.{is_solid, front, behind, without_end, end_of}
use Rattle.org_splice.proofs.Ends.{both, front_behind, front_passes}
use Rattle.org_outline.specs.HeadingLine.{BeginsWithNo, EndsWithNo}

run_len : (p : ℕ → Bool) (a b : List ℕ) → list_all p a ≡ true → BeginsWithNo p b → prefix_len p (a ++ b) ≡ length a
run_len p [] b all none = none
run_len p (x ∷ a) b all none =
    let t = both (p x) (list_all p a) all in
    let later : prefix_len p (a ++ b) ≡ length a = run_len p a b t.1 none in
    rw t.0 (omega (arith, later))

pub front_is : (p : ℕ → Bool) (a b : List ℕ) → list_all p a ≡ true → BeginsWithNo p b → front p (a ++ b) ≡ a
front_is p a b all none = take_at a b (prefix_len p (a ++ b)) (sym (run_len p a b all none))

pub behind_is : (p : ℕ → Bool) (a b : List ℕ) → list_all p a ≡ true → BeginsWithNo p b → behind p (a ++ b) ≡ b
behind_is p a b all none = drop_at a b (prefix_len p (a ++ b)) (sym (run_len p a b all none))

reversed : (p : ℕ → Bool) (l : List ℕ) → list_all p l ≡ true → list_all p (reverse l) ≡ true
reversed p [] all = refl
reversed p (x ∷ l) all =
    let t = both (p x) (list_all p l) all in
    ap (list_all p) (reverse-append (x ∷ []) l) ∙ list_all-append p (reverse l) (x ∷ []) ∙ rw (reversed p l t.1, t.0) refl

end_len : (p : ℕ → Bool) (a b : List ℕ) → list_all p b ≡ true → EndsWithNo p a → suffix_len p (a ++ b) ≡ length b
end_len p a b all none =
    ap (prefix_len p) (reverse-append a b) ∙ run_len p (reverse b) (reverse a) (reversed p b all) none ∙ length-reverse b

kept_len : (p : ℕ → Bool) (a b : List ℕ) → list_all p b ≡ true → EndsWithNo p a → length a ≡ length (a ++ b) - suffix_len p (a ++ b)
kept_len p a b all none = omega (arith, end_len p a b all none, length-append a b)

pub without_end_is : (p : ℕ → Bool) (a b : List ℕ) → list_all p b ≡ true → EndsWithNo p a → without_end p (a ++ b) ≡ a
without_end_is p a b all none = take_at a b (length (a ++ b) - suffix_len p (a ++ b)) (kept_len p a b all none)

pub end_of_is : (p : ℕ → Bool) (a b : List ℕ) → list_all p b ≡ true → EndsWithNo p a → end_of p (a ++ b) ≡ b
end_of_is p a b all none = drop_at a b (length (a ++ b) - suffix_len p (a ++ b)) (kept_len p a b all none)

-- a test that no blank passes
pub solid : (p : ℕ → Bool) (l : List ℕ) → p 32 ≡ false → p 9 ≡ false → list_all p l ≡ true → list_all is_solid l ≡ true
solid p [] space tab all = refl
solid p (b ∷ l) space tab all =
    let t = both (p b) (list_all p l) all in
    elim (cases_Bool (eqb b 32)) [
      | inl e ↦ absurd (let is : p 32 ≡ true = ap p (sym (eqb-true b 32 e)) ∙ t.0 in cc)
      | inr e ↦ (elim (cases_Bool (eqb b 9)) [
        | inl f ↦ absurd (let is : p 9 ≡ true = ap p (sym (eqb-true b 9 f)) ∙ t.0 in cc)
        | inr f ↦ rw (e, f) (solid p l space tab t.1)
      ])
    ]

-- ---- what is after a run, and before one

pub begins_behind : (p : ℕ → Bool) (l : List ℕ) → BeginsWithNo p (behind p l)
begins_behind p [] = refl
begins_behind p (b ∷ l) =
    let next : 1 + prefix_len p l ≡ suc (prefix_len p l) = omega arith in
    elim (cases_Bool (p b)) [
      | inl e ↦ rw (e, next) (begins_behind p l)
      | inr e ↦ rw (e, e) refl
    ]

pub ends_before : (p : ℕ → Bool) (l : List ℕ) → EndsWithNo p (without_end p l)
ends_before p l =
    let r = reverse l in
    let a = reverse (behind p r) in
    let b = reverse (front p r) in
    let none : EndsWithNo p a = ap (prefix_len p) (reverse-reverse (behind p r)) ∙ begins_behind p r in
    let split : l ≡ a ++ b = sym (reverse-reverse l) ∙ ap reverse (front_behind p r) ∙ reverse-append (front p r) (behind p r) in
    let is : without_end p l ≡ a = ap (without_end p) split ∙ without_end_is p a b (reversed p (front p r) (front_passes p r)) none in
    ap (suffix_len p) is ∙ none

begins_taken : (p : ℕ → Bool) (n : ℕ) (l : List ℕ) → BeginsWithNo p l → BeginsWithNo p (take n l)
begins_taken p zero l none = refl
begins_taken p (suc n) [] none = refl
begins_taken p (suc n) (b ∷ l) none = grind (arith, common_steps)

pub begins_before : (p : ℕ → Bool) (l : List ℕ) → BeginsWithNo p l → BeginsWithNo p (without_end p l)
begins_before p l none = begins_taken p (length l - suffix_len p l) l none
