-- Families that are counted in a map.
use Rattle.std.proofs.Common.{◌≡◌, ℕ, ◌+◌, ◌<◌, ◌≤◌, Bool, true, false, nat_eq, cond, List, [], ◌∷◌, length, Option, Some, None, refl, sym, ap, subst, ◌∙◌, arith, inl, inr, map, count_by, unwrap_or}
use Rattle.std.specs.HashMap.{HashMap, Updates, get_by}
use Rattle.std.specs.List.{range_with_len}
use Rattle.std.specs.Option.{option_eq}
use Rattle.std.specs.Str.{bytes_eq}
use Rattle.std.proofs.lemmas.Bool.{and_from, and_parts, cases_Bool, eq-eqb, eqb-true, false≢true}
use Rattle.std.proofs.lemmas.Grind.{common_steps}
use Rattle.std.proofs.lemmas.List.FromFn.{length-map-range_with_len, sum_by-map-range_with_len_more}
use Rattle.std.proofs.lemmas.List.Sums.{count_by-le-length}
use Rattle.std.proofs.lemmas.Slice.Eq.{bytes_eq-Decides}
use Rattle.org_outline.specs.States.{Keywords}
use Rattle.org_outline.specs.Tree.{Document}
use Rattle.orgs_entries.specs.Families.{AreCounted, Key, counted, family_at}
use Rattle.orgs_entries.specs.Twins.{Family, count_below, families_below, family_of, is_same_family}

-- families are the same exactly where they are equal
same_parent : (x y : Option ℕ) → option_eq nat_eq x y ≡ true → x ≡ y
same_parent None None e = refl
same_parent None (Some y) e = absurd (false≢true e)
same_parent (Some x) None e = absurd (false≢true e)
same_parent (Some x) (Some y) e = ap (λ (n : ℕ). Some n) (eqb-true x y e)

own_parent : (x : Option ℕ) → option_eq nat_eq x x ≡ true
own_parent None = refl
own_parent (Some x) = eq-eqb x x refl

same_family : (a b : Family) → is_same_family a b ≡ true → a ≡ b
same_family a b e =
    let parts = and_parts (option_eq nat_eq a.0 b.0) (bytes_eq a.1 b.1) e in
    let up : a.0 ≡ b.0 = same_parent a.0 b.0 parts.0 in
    let title : a.1 ≡ b.1 = (bytes_eq-Decides a.1 b.1).0 parts.1 in
    ap (λ (p : Option ℕ). let f : Family = (p, a.1) in f) up ∙ ap (λ (t : List ℕ). let f : Family = (b.0, t) in f) title

own_family : (a : Family) → is_same_family a a ≡ true
own_family a = and_from (option_eq nat_eq a.0 a.0) (bytes_eq a.1 a.1) (own_parent a.0) ((bytes_eq-Decides a.1 a.1).1 refl)

-- one heading more
count_more : (states : Keywords) (d : Document) (n : ℕ) (f : Family) → count_below states d (n + 1) f ≡ count_below states d n f + cond (is_same_family f (family_of states d n)) 1 0
count_more states d n f = sum_by-map-range_with_len_more (λ (x : Family). cond (is_same_family f x) 1 0) (family_of states d) 0 n n (omega arith)

-- no more are counted than there are
pub count_within : (states : Keywords) (d : Document) (n : ℕ) (f : Family) → count_below states d n f ≤ n
count_within states d n f = omega (arith, count_by-le-length (is_same_family f) (families_below states d n), length-map-range_with_len (family_of states d) 0 n)

-- two tests of one family are alike
flip : (a b : Family) → is_same_family a b ≡ is_same_family b a
flip a b =
    elim (cases_Bool (is_same_family a b)) [
      | inl is_so ↦ is_so ∙ sym (subst (λ (f : Family). is_same_family f a ≡ true) (same_family a b is_so) (own_family a))
      | inr isnt ↦
          elim (cases_Bool (is_same_family b a)) [
            | inl is_so ↦ absurd (false≢true (sym isnt ∙ subst (λ (f : Family). is_same_family f b ≡ true) (same_family b a is_so) (own_family b)))
            | inr other ↦ isnt ∙ sym other
          ]
    ]

-- a family is counted once more
pub counts_more : {S : Type 0} (states : Keywords) (d : Document) (n : ℕ) (m new : HashMap Key ℕ S) (key : Key) (v : ℕ)
    → AreCounted m states d n → family_at key ≡ family_of states d n → v ≡ counted m key + 1
    → Updates (λ (x y : Key). is_same_family (family_at x) (family_at y)) m new key (Some v) → AreCounted new states d (n + 1)
counts_more states d n m new key v known is more u other =
    let f = family_at other in
    let kept : unwrap_or (get_by (λ k. is_same_family f (family_at k)) new) 0 ≡ unwrap_or (cond (is_same_family (family_at key) f) (Some v) (get_by (λ k. is_same_family f (family_at k)) m)) 0 =
    ap (λ (o : Option ℕ). unwrap_or o 0) (u.0 other) in
    let test : is_same_family f (family_of states d n) ≡ is_same_family (family_at key) f = ap (is_same_family f) (sym is) ∙ flip f (family_at key) in
    elim (cases_Bool (is_same_family (family_at key) f)) [
      | inl is_so ↦
          let same : count_below states d n (family_at key) ≡ count_below states d n f = ap (count_below states d n) (same_family (family_at key) f is_so) in
          let value : unwrap_or (get_by (λ k. is_same_family f (family_at k)) new) 0 ≡ v = kept ∙ ap (λ b. unwrap_or (cond b (Some v) (get_by (λ k. is_same_family f (family_at k)) m)) 0) is_so in
          let next : count_below states d (n + 1) f ≡ count_below states d n f + 1 = count_more states d n f ∙ ap (λ b. count_below states d n f + cond b 1 0) (test ∙ is_so) in
          value ∙ more ∙ ap (λ k. k + 1) (known key ∙ same) ∙ sym next
      | inr isnt ↦
          let value : unwrap_or (get_by (λ k. is_same_family f (family_at k)) new) 0 ≡ counted m other = kept ∙ ap (λ b. unwrap_or (cond b (Some v) (get_by (λ k. is_same_family f (family_at k)) m)) 0) isnt in
          let next : count_below states d (n + 1) f ≡ count_below states d n f + 0 = count_more states d n f ∙ ap (λ b. count_below states d n f + cond b 1 0) (test ∙ isnt) in
          let none : count_below states d n f + 0 ≡ count_below states d n f = omega arith in
          value ∙ known other ∙ sym (next ∙ none)
    ]
