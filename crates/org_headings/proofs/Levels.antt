-- Searches among headings by their levels: the lowest one, and the last heading above a level.
use Rattle.std.proofs.Common.{◌≡◌, ℕ, suc, ◌+◌, ◌-◌, ◌<◌, ◌≤◌, true, false, cond, ltb, List, [], ◌∷◌, ◌++◌, length, take, get_or, Option, Some, None, refl, sym, ap, ◌∙◌, arith, add-zero}
use Rattle.std.proofs.lemmas.Grind.{common_steps}
use Rattle.std.specs.List.{AllByRecursion}
use Rattle.std.proofs.lemmas.Bool.Decides.{nat_tests}
use Rattle.std.proofs.lemmas.List.{take_more, length-take-le, get_or_default}
use Rattle.org_headings.specs.declared.heads.Heading.{Heading}
use Rattle.org_headings.specs.Headings.{last_above, lowest_level}

-- ---- the lowest level

pub lowest_none : (floor n : ℕ) (hs : List Heading) → AllByRecursion (λ (h : Heading). floor < h.level) hs → n - 1 ≤ floor → lowest_level n hs ≡ n
lowest_none floor n [] deep le = refl
lowest_none floor n (h ∷ hs) deep le = grind (arith, common_steps, lowest_none floor n hs deep.1 le)

-- ---- the last above a level

pub last_above-append : (n i : ℕ) (best : Option ℕ) (xs ys : List Heading) → last_above n i best (xs ++ ys) ≡ last_above n (i + length xs) (last_above n i best xs) ys
last_above-append n i best [] ys = ap (λ k. last_above n k best ys) (sym (add-zero i))
last_above-append n i best (x ∷ xs) ys =
    let k : suc i + length xs ≡ i + length (x ∷ xs) = omega arith in
    let next = cond (ltb x.level n) (Some i) best in
    last_above-append n (suc i) next xs ys ∙ ap (λ k. last_above n k (last_above n (suc i) next xs) ys) k

-- a pass from the end
pub last_above-more : (n i : ℕ) (hs : List Heading) (h : Heading) → i < length hs → h ≡ get_or hs i h → (ltb h.level n ≡ true → last_above n 0 None (take (i + 1) hs) ≡ Some i) × (ltb h.level n ≡ false → last_above n 0 None (take (i + 1) hs) ≡ last_above n 0 None (take i hs))
last_above-more n i hs h lt e = grind (arith, common_steps, take_more, last_above-append, length-take-le)

-- the same as the code says it: `k - 1` is looked at next
last_looked : (n k : ℕ) (hs : List Heading) (d : Heading) → 0 < k → k ≤ length hs → last_above n 0 None (take k hs) ≡ last_above n 0 None hs
    → (ltb (get_or hs (k - 1) d).level n ≡ true → last_above n 0 None hs ≡ Some (k - 1)) × (ltb (get_or hs (k - 1) d).level n ≡ false → last_above n 0 None hs ≡ last_above n 0 None (take (k - 1) hs))
last_looked n k hs d pos le so_far = grind (arith, common_steps, last_above-more, get_or_default)

pub last_found : (n k : ℕ) (hs : List Heading) (d : Heading) → 0 < k → k ≤ length hs → (get_or hs (k - 1) d).level < n → last_above n 0 None (take k hs) ≡ last_above n 0 None hs → Some (k - 1) ≡ last_above n 0 None hs
last_found n k hs d pos le lt so_far = sym ((last_looked n k hs d pos le so_far).0 (grind (arith, nat_tests)))

pub last_passed : (n k : ℕ) (hs : List Heading) (d : Heading) → 0 < k → k ≤ length hs → n ≤ (get_or hs (k - 1) d).level → last_above n 0 None (take k hs) ≡ last_above n 0 None hs
    → last_above n 0 None (take (k - 1) hs) ≡ last_above n 0 None hs
last_passed n k hs d pos le lt so_far = sym ((last_looked n k hs d pos le so_far).1 (grind (arith, nat_tests)))
