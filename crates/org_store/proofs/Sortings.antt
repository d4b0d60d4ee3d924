-- Names in byte order: there is one way to put them so.
use Rattle.std.proofs.Common.{Ordering, Less, Greater, ◌≡◌, ⊎_elim, ℕ, List, [], ◌∷◌, length, refl, sym, ◌∙◌, ap, subst, arith}
use Rattle.std.specs.List.{Contains}
use Rattle.std.specs.List.Sorted.{IsStrictlySortedBy}
use Rattle.std.specs.Cmp.Lexicographic.{slice_cmp, nat_list_cmp_total}
use Rattle.std.specs.Ordering.{nat_cmp, ordering_reverse}
use Rattle.std.proofs.lemmas.List.Elements.{All-contains}
use Rattle.std.proofs.lemmas.Map.Keys.{sorted_tail}
use Rattle.std.proofs.lemmas.Map.Views.{All-after_first}
use Rattle.org_fileset.specs.Names.{AreSorted, AreFew, AreTooMany}
use Rattle.org_fileset.proofs.Elements.{no_member, cons_cases, cons_here, cons_later}

abbrev order : List ℕ → List ℕ → Ordering
order = slice_cmp nat_cmp

abbrev IsInOrder : List (List ℕ) → Type 0
IsInOrder names = IsStrictlySortedBy order names

never_both : (x y : List ℕ) → order x y ≡ Less → order y x ≡ Less → ⊥
never_both x y below above =
    let turned : Less ≡ Greater = sym below ∙ nat_list_cmp_total.antisymm x y ∙ ap ordering_reverse above in
    absurd (cc)

-- each later name is past the first
past_first : (x : List ℕ) (names : List (List ℕ)) (name : List ℕ) → IsInOrder (x ∷ names) → Contains names name → order x name ≡ Less
past_first x names name sorted there = All-contains (λ q. order x q ≡ Less) names name (All-after_first order x names sorted) there

same_first : (x y : List ℕ) (a b : List (List ℕ)) → IsInOrder (x ∷ a) → IsInOrder (y ∷ b) → Contains (y ∷ b) x → Contains (x ∷ a) y → x ≡ y
same_first x y a b first second x_there y_there = ⊎_elim
    (λ e. sym e)
    (λ x_later. ⊎_elim (λ e. e) (λ y_later. absurd (never_both x y (past_first x a y first y_later) (past_first y b x second x_later))) (cons_cases x a y y_there))
    (cons_cases y b x x_there)

-- a later name of one list is a later one of the other
still_later : (x y : List ℕ) (a b : List (List ℕ)) → IsInOrder (x ∷ a) → x ≡ y → ((name : List ℕ) → Contains (x ∷ a) name → Contains (y ∷ b) name) → (name : List ℕ) → Contains a name → Contains b name
still_later x y a b sorted same each name there = ⊎_elim
    (λ e. let below : order x x ≡ Less = subst (λ n. order x n ≡ Less) (sym (same ∙ e)) (past_first x a name sorted there) in absurd (never_both x x below below))
    (λ later. later)
    (cons_cases y b name (each name (cons_later x a name there)))

one_order : (a b : List (List ℕ)) → IsInOrder a → IsInOrder b → ((name : List ℕ) → Contains a name → Contains b name) → ((name : List ℕ) → Contains b name → Contains a name) → a ≡ b
one_order [] [] first second there back = refl
one_order [] (y ∷ b) first second there back = absurd (no_member y (back y (cons_here y b)))
one_order (x ∷ a) [] first second there back = absurd (no_member x (there x (cons_here x a)))
one_order (x ∷ a) (y ∷ b) first second there back =
    let same : x ≡ y = same_first x y a b first second (there x (cons_here x a)) (back y (cons_here y b)) in
    let rest : a ≡ b = one_order a b (sorted_tail order x a first) (sorted_tail order y b second)
    (still_later x y a b first same there) (still_later y x b a second (sym same) back) in
    ap (λ n. n ∷ a) same ∙ ap (λ l. y ∷ l) rest

pub one_sorting : (given a b : List (List ℕ)) → AreSorted given a → AreSorted given b → a ≡ b
one_sorting given a b first second = one_order a b first.ordered second.ordered
    (λ name there. (second.members name).1 ((first.members name).0 there))
    (λ name there. (first.members name).1 ((second.members name).0 there))

-- names are few or too many, never both
pub few_or_many : (given : List (List ℕ)) → AreFew given → AreTooMany given → ⊥
few_or_many given few many = let same : few.0 ≡ many.0 = one_sorting given few.0 many.0 few.1 many.1 in omega (arith, few.2, many.2, ap length same)
