-- Lists that are gone through from the front: what is read so far, and the first that meets a test.
use Rattle.std.proofs.Common.{◌≡◌, ◌∙◌, ap, sym, subst, refl, ℕ, zero, suc, ◌+◌, ◌<◌, Bool, true, false, cond, List, [], ◌∷◌, ◌++◌, map, take, length, get_or, Option, Some, None, arith}
use Rattle.std.proofs.lemmas.Grind.{common_steps}
use Rattle.std.specs.Prelude.{find}
use Rattle.std.proofs.lemmas.Option.{none-some}

module _ {X : Type 0} where
  past : (b : Bool) (x : X) (rest : Option X) → cond b (Some x) rest ≡ None → (b ≡ false) × (rest ≡ None)
  past true x rest none = absurd (none-some x (sym none))
  past false x rest none = (refl, none)

  at_front : (b : Bool) (x found : X) (rest : Option X) → cond b (Some x) None ≡ Some found → cond b (Some x) rest ≡ Some found
  at_front true x found rest is = is
  at_front false x found rest is = absurd (none-some found is)

module _ {S X : Type 0} (test : X → Bool) (f : S → X) where
  -- the element after those among which none meets the test is the first, if it meets it
  pub first_at : (i : ℕ) (ss : List S) (s : S) (found : X) → i < length ss → s ≡ get_or ss i s → find test (map f (take i ss)) ≡ None
      → find test (f s ∷ []) ≡ Some found → find test (map f ss) ≡ Some found
  first_at i [] s found within is none at = absurd (omega arith)
  first_at zero (t ∷ ts) s found within is none at =
      at_front (test (f t)) (f t) found (find test (map f ts)) (subst (λ x. find test (f x ∷ []) ≡ Some found) is at)
  first_at (suc i) (t ∷ ts) s found within is none at =
      let front = past (test (f t)) (f t) (find test (map f (take i ts))) none in
      ap (λ b. cond b (Some (f t)) (find test (map f ts))) front.0 ∙ first_at i ts s found (omega arith) is front.1 at

  -- .. and there is none so far, if it doesn't
  none_past : (i : ℕ) (ss : List S) (s : S) → i < length ss → s ≡ get_or ss i s → find test (map f (take i ss)) ≡ None
      → find test (f s ∷ []) ≡ None → find test (map f (take (suc i) ss)) ≡ None
  none_past i [] s within is none at = absurd (omega arith)
  none_past zero (t ∷ ts) s within is none at = subst (λ x. find test (f x ∷ []) ≡ None) is at
  none_past (suc i) (t ∷ ts) s within is none at =
      let front = past (test (f t)) (f t) (find test (map f (take i ts))) none in
      ap (λ b. cond b (Some (f t)) (find test (map f (take (suc i) ts)))) front.0 ∙ none_past i ts s (omega arith) is front.1 at

  pub none_more : (i : ℕ) (ss : List S) (s : S) → i < length ss → s ≡ get_or ss i s → find test (map f (take i ss)) ≡ None
      → find test (f s ∷ []) ≡ None → find test (map f (take (i + 1) ss)) ≡ None
  none_more i ss s within is none at =
      let on : i + 1 ≡ suc i = omega arith in ap (λ n. find test (map f (take n ss))) on ∙ none_past i ss s within is none at

module _ {S X : Type 0} (f : S → X) where
  -- what is read so far, with one more
  pub mapped_more : (i : ℕ) (ss : List S) (s : S) (xs : List X) (x : X) → i < length ss → s ≡ get_or ss i s → xs ≡ map f (take i ss) → x ≡ f s
      → xs ++ x ∷ [] ≡ map f (take (i + 1) ss)
  mapped_more i ss s xs x within is so_far more = grind (arith, common_steps)

-- of two lists, one after the other
module _ {X : Type 0} (test : X → Bool) where
  -- the first of the front is the first of all
  pub first_of_front : (xs ys : List X) (found : X) → find test xs ≡ Some found → find test (xs ++ ys) ≡ Some found
  first_of_front [] ys found at = absurd (none-some found at)
  first_of_front (x ∷ xs) ys found at = go (test x) (first_of_front xs ys found) at
    where
      go : (b : Bool) → (find test xs ≡ Some found → find test (xs ++ ys) ≡ Some found) → cond b (Some x) (find test xs) ≡ Some found → cond b (Some x) (find test (xs ++ ys)) ≡ Some found
      go true later at = at
      go false later at = later at

  -- after a front that has none, the first is that of the others
  pub first_behind : (xs ys : List X) → find test xs ≡ None → find test (xs ++ ys) ≡ find test ys
  first_behind [] ys none = refl
  first_behind (x ∷ xs) ys none =
      let front = past (test x) x (find test xs) none in
      ap (λ b. cond b (Some x) (find test (xs ++ ys))) front.0 ∙ first_behind xs ys front.1
