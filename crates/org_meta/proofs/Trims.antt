-- Lines trimmed from their ends, byte by byte from the front.
use Rattle.std.proofs.Common.{◌≡◌, ℕ, suc, ◌+◌, ◌-◌, Bool, true, false, ◌&&◌, List, [], ◌∷◌, ◌++◌, length, take, refl, sym, ap, ◌∙◌, arith, inl, inr, append-nil}
use Rattle.std.proofs.lemmas.Grind.{common_steps}
use Rattle.std.specs.Prelude.{reverse, ◌==◌}
use Rattle.std.specs.List.{prefix_len, suffix_len, list_all}
use Rattle.std.proofs.lemmas.Bool.{cases_Bool, false≢true}
use Rattle.std.proofs.lemmas.List.{length-reverse, reverse-append, take_at, drop_at}
use Rattle.std.proofs.lemmas.List.Sums.{prefix_len-le-length}
use Rattle.std.proofs.lemmas.List.Folds.{list_all-append}
use Rattle.org_splice.specs.Blanks.{is_blank, is_trailing, front, behind, without_end, trimmed_end, trimmed}
use Rattle.org_splice.proofs.Ends.{both}

and_swap : (a b : Bool) → (a && (b && true)) ≡ (b && a)
and_swap true true = refl
and_swap true false = refl
and_swap false true = refl
and_swap false false = refl

and_false : (a : Bool) → (a && false) ≡ false
and_false true = refl
and_false false = refl

list_all-reverse : (p : ℕ → Bool) (l : List ℕ) → list_all p (reverse l) ≡ list_all p l
list_all-reverse p [] = refl
list_all-reverse p (x ∷ l) =
    ap (list_all p) (reverse-append (x ∷ []) l) ∙ list_all-append p (reverse l) (x ∷ []) ∙ ap (λ b. b && (p x && true)) (list_all-reverse p l) ∙ and_swap (list_all p l) (p x)

-- ---- how many bytes at the front pass

pub prefix_all : (p : ℕ → Bool) (xs ys : List ℕ) → list_all p xs ≡ true → prefix_len p (xs ++ ys) ≡ length xs + prefix_len p ys
prefix_all p [] ys h = omega arith
prefix_all p (x ∷ xs) ys h =
    let b = both (p x) (list_all p xs) h in
    let more = prefix_all p xs ys b.1 in
    rw b.0 (omega arith)

prefix_some : (p : ℕ → Bool) (xs ys : List ℕ) → list_all p xs ≡ false → prefix_len p (xs ++ ys) ≡ prefix_len p xs
prefix_some p [] ys h = absurd (false≢true (sym h))
prefix_some p (x ∷ xs) ys h =
    elim (cases_Bool (p x)) [
      | inl e ↦ let rest : list_all p xs ≡ false = rw e at h in rw e (ap (λ n. 1 + n) (prefix_some p xs ys rest))
      | inr e ↦ rw e refl
    ]

pub behind_step : (p : ℕ → Bool) (x : ℕ) (l : List ℕ) → p x ≡ true → behind p (x ∷ l) ≡ behind p l
behind_step p x l e = let next : 1 + prefix_len p l ≡ suc (prefix_len p l) = omega arith in rw (e, next) refl

pub behind_stop : (p : ℕ → Bool) (x : ℕ) (l : List ℕ) → p x ≡ false → behind p (x ∷ l) ≡ x ∷ l
behind_stop p x l e = rw e refl

-- after bytes that pass stands what does not begin with one
pub behind_front : (p : ℕ → Bool) (xs ys : List ℕ) → list_all p xs ≡ true → prefix_len p ys ≡ 0 → behind p (xs ++ ys) ≡ ys
behind_front p xs ys all none = grind (arith, common_steps, prefix_all, drop_at)

pub front_front : (p : ℕ → Bool) (xs ys : List ℕ) → list_all p xs ≡ true → prefix_len p ys ≡ 0 → front p (xs ++ ys) ≡ xs
front_front p xs ys all none = grind (arith, common_steps, prefix_all, take_at)

-- ---- without the end

suffix_all : (p : ℕ → Bool) (l : List ℕ) → list_all p l ≡ true → suffix_len p l ≡ length l
suffix_all p l all =
    let h : list_all p (reverse l) ≡ true = list_all-reverse p l ∙ all in
    ap (prefix_len p) (sym (append-nil (reverse l))) ∙ prefix_all p (reverse l) [] h ∙ (let n : length (reverse l) + 0 ≡ length l = omega (arith, length-reverse l) in n)

pub trim_all : (p : ℕ → Bool) (l : List ℕ) → list_all p l ≡ true → without_end p l ≡ []
trim_all p l all = let n : length l - suffix_len p l ≡ 0 = omega (arith, suffix_all p l all) in ap (λ k. take k l) n

suffix_more : (p : ℕ → Bool) (x : ℕ) (l : List ℕ) → list_all p (x ∷ l) ≡ false → suffix_len p (x ∷ l) ≡ suffix_len p l
suffix_more p x l some =
    ap (prefix_len p) (reverse-append (x ∷ []) l)
    ∙ elim (cases_Bool (list_all p l)) as (λ _. prefix_len p (reverse l ++ x ∷ []) ≡ suffix_len p l) [
      | inl all ↦
          let other : p x ≡ false = first_fails (p x) (list_all p l) some all in
          let none : prefix_len p (x ∷ []) ≡ 0 = rw other refl in
          let h : list_all p (reverse l) ≡ true = list_all-reverse p l ∙ all in
          omega (arith, prefix_all p (reverse l) (x ∷ []) h, suffix_all p l all, length-reverse l)
      | inr not_all ↦ prefix_some p (reverse l) (x ∷ []) (list_all-reverse p l ∙ not_all)
    ] where
      first_fails : (a b : Bool) → (a && b) ≡ false → b ≡ true → a ≡ false
      first_fails true b e t = absurd (false≢true (sym e ∙ t))
      first_fails false b e t = refl

pub trim_more : (p : ℕ → Bool) (x : ℕ) (l : List ℕ) → list_all p (x ∷ l) ≡ false → without_end p (x ∷ l) ≡ x ∷ without_end p l
trim_more p x l some = grind (arith, common_steps, prefix_len-le-length, length-reverse, suffix_more)

eq_zero : (n : ℕ) → (suc n == 0) ≡ false
eq_zero n = grind arith

-- a line is trimmed to nothing where all of it is blank
pub trimmed_empty : (l : List ℕ) → (length (trimmed_end l) == 0) ≡ list_all is_trailing l
trimmed_empty [] = refl
trimmed_empty (x ∷ l) =
    elim (cases_Bool (list_all is_trailing (x ∷ l))) [
      | inl all ↦ ap (λ (t : List ℕ). length t == 0) (trim_all is_trailing (x ∷ l) all) ∙ sym all
      | inr some ↦
          let more : length (trimmed_end (x ∷ l)) == 0 ≡ false = rw (trim_more is_trailing x l some) (eq_zero (length (trimmed_end l))) in
          more ∙ sym some
    ]

not_all : (p : ℕ → Bool) (xs : List ℕ) (b : ℕ) (ys : List ℕ) → p b ≡ false → list_all p (xs ++ b ∷ ys) ≡ false
not_all p [] b ys e = rw e refl
not_all p (x ∷ xs) b ys e = ap (λ t. p x && t) (not_all p xs b ys e) ∙ and_false (p x)

-- a byte that does not pass stays, and what stands before it
pub trim_behind : (p : ℕ → Bool) (xs : List ℕ) (b : ℕ) (ys : List ℕ) → p b ≡ false → without_end p (xs ++ b ∷ ys) ≡ xs ++ b ∷ without_end p ys
trim_behind p [] b ys e = trim_more p b ys (not_all p [] b ys e)
trim_behind p (x ∷ xs) b ys e = trim_more p x (xs ++ b ∷ ys) (not_all p (x ∷ xs) b ys e) ∙ ap (λ (t : List ℕ). x ∷ t) (trim_behind p xs b ys e)

-- ---- a line is trimmed at either end first

pub trim_either : (l : List ℕ) → behind is_blank (trimmed_end l) ≡ trimmed l
trim_either [] = refl
trim_either (x ∷ l) =
    elim (cases_Bool (list_all is_trailing (x ∷ l))) [
      | inl all ↦
          let rest = (both (is_trailing x) (list_all is_trailing l) all).1 in
          ap (behind is_blank) (trim_all is_trailing (x ∷ l) all)
          ∙ elim (cases_Bool (is_blank x)) as (λ _. [] ≡ trimmed (x ∷ l)) [
            | inl blank ↦ sym (ap trimmed_end (behind_step is_blank x l blank) ∙ sym (trim_either l) ∙ ap (behind is_blank) (trim_all is_trailing l rest))
            | inr solid ↦ sym (ap trimmed_end (behind_stop is_blank x l solid) ∙ trim_all is_trailing (x ∷ l) all)
          ]
      | inr some ↦
          ap (behind is_blank) (trim_more is_trailing x l some)
          ∙ elim (cases_Bool (is_blank x)) as (λ _. behind is_blank (x ∷ trimmed_end l) ≡ trimmed (x ∷ l)) [
            | inl blank ↦ behind_step is_blank x (trimmed_end l) blank ∙ trim_either l ∙ sym (ap trimmed_end (behind_step is_blank x l blank))
            | inr solid ↦ behind_stop is_blank x (trimmed_end l) solid ∙ sym (ap trimmed_end (behind_stop is_blank x l solid) ∙ trim_more is_trailing x l some)
          ]
    ]
