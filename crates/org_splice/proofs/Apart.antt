-- Changed ranges: that they stay apart, and cover what they covered.
use Rattle.std.proofs.Common.{◌≡◌, ◌⊎◌, inl, inr, ⊎_elim, ℕ, ◌+◌, ◌<◌, ◌≤◌, eqb, ltb, leb, min, max, List, [], ◌∷◌, length, get_or, set, zero, suc, ◌++◌, refl, ap, arith, cond, lit≤}
use Rattle.std.proofs.lemmas.Grind.{common_steps}
use Rattle.std.proofs.lemmas.Bool.{ltb-true, ltb-false, leb-true, eqb-true, eqb-false, cond_both, cases_lt}
use Rattle.org_splice.specs.declared.Span.{Span}
use Rattle.org_splice.specs.Ranges.{LieApart, IsUnchanged, cut_at, joined, last_two_joined, a_thousand_of, with_range}

pub LieApart-earlier : (place other size : ℕ) (ranges : List Span) → other ≤ place → LieApart place size ranges → LieApart other size ranges
LieApart-earlier place other size [] le apart = tt
LieApart-earlier place other size (range ∷ ranges) le apart = (omega (arith, apart.0, le), apart.1, apart.2, apart.3)

pub LieApart-wider : (place size other : ℕ) (ranges : List Span) → size ≤ other → LieApart place size ranges → LieApart place other ranges
LieApart-wider place size other [] le apart = tt
LieApart-wider place size other (range ∷ ranges) le apart = (apart.0, apart.1, omega (arith, apart.2, le), LieApart-wider (range.end + 1) size other ranges le apart.3)

-- each of them
pub LieApart-at : (place size : ℕ) (ranges : List Span) (i : ℕ) (none : Span) → LieApart place size ranges → i < length ranges → ((get_or ranges i none).start < (get_or ranges i none).end) × ((get_or ranges i none).end ≤ size)
LieApart-at place size [] i none apart within = absurd (omega arith)
LieApart-at place size (range ∷ ranges) zero none apart within = (apart.1, apart.2)
LieApart-at place size (range ∷ ranges) (suc i) none apart within = LieApart-at (range.end + 1) size ranges i none apart.3 (omega arith)

-- A cut at the text's end

pub LieApart-cut_at : (place size other : ℕ) (ranges : List Span) → LieApart place size ranges → LieApart place other (cut_at other ranges)
LieApart-cut_at place size other [] apart = tt
LieApart-cut_at place size other (range ∷ ranges) apart = grind (arith, common_steps, cond_both, cut_at, ltb-true, LieApart-earlier, LieApart-cut_at (range.end + 1) size other ranges apart.3)

pub IsUnchanged-cut_at : (size : ℕ) (ranges : List Span) (i : ℕ) → i < size → IsUnchanged (cut_at size ranges) i → IsUnchanged ranges i
IsUnchanged-cut_at size [] i below = λ outside. tt
IsUnchanged-cut_at size (range ∷ ranges) i below =
    cond_both (ltb range.start size) (record { start = range.start; end = min range.end size } ∷ cut_at size ranges) (cut_at size ranges) (λ kept. IsUnchanged kept i → IsUnchanged (range ∷ ranges) i)
    (λ before outside. (⊎_elim (λ first. inl first) (λ last. inr (omega (arith, last, below))) outside.0, IsUnchanged-cut_at size ranges i below outside.1))
    (λ behind outside.
    let past : size ≤ range.start = ltb-false range.start size behind in
    (inl (omega (arith, past, below)), IsUnchanged-cut_at size ranges i below outside))

pub length-cut_at : (size : ℕ) (ranges : List Span) → length (cut_at size ranges) ≤ length ranges
length-cut_at size [] = omega arith
length-cut_at size (range ∷ ranges) = grind (arith, common_steps, length-cut_at size ranges)

-- One more

pub LieApart-joined : (place size : ℕ) (own : Span) (ranges : List Span) → place ≤ own.start → own.start < own.end → own.end ≤ size → LieApart place size ranges → LieApart place size (joined own ranges)
LieApart-joined place size own [] from full within apart = (from, full, within, tt)
LieApart-joined place size own (range ∷ ranges) from full within apart =
    let both : Span = record { start = min own.start range.start; end = max own.end range.end } in
    cond_both (ltb range.end own.start) (range ∷ joined own ranges) (cond (ltb own.end range.start) (own ∷ range ∷ ranges) (joined both ranges)) (λ all. LieApart place size all)
    (λ before.
    let gap : range.end < own.start = ltb-true range.end own.start before in
    (apart.0, apart.1, apart.2, LieApart-joined (range.end + 1) size own ranges (omega (arith, gap)) full within apart.3))
    (λ touches. cond_both (ltb own.end range.start) (own ∷ range ∷ ranges) (joined both ranges) (λ all. LieApart place size all)
    (λ behind.
    let gap : own.end < range.start = ltb-true own.end range.start behind in
    (from, full, within, (omega (arith, gap), apart.1, apart.2, apart.3)))
    (λ overlaps. LieApart-joined place size both ranges (omega (arith, from, apart.0)) (omega (arith, full, apart.1)) (omega (arith, within, apart.2)) (LieApart-earlier (range.end + 1) place size ranges (omega (arith, apart.0, apart.1)) apart.3)))

pub IsUnchanged-joined : (own : Span) (ranges : List Span) (i : ℕ) → IsUnchanged (joined own ranges) i → ((i < own.start) ⊎ (own.end ≤ i)) × IsUnchanged ranges i
IsUnchanged-joined own [] i = λ outside. outside
IsUnchanged-joined own (range ∷ ranges) i =
    let both : Span = record { start = min own.start range.start; end = max own.end range.end } in
    cond_both (ltb range.end own.start) (range ∷ joined own ranges) (cond (ltb own.end range.start) (own ∷ range ∷ ranges) (joined both ranges)) (λ all. IsUnchanged all i → ((i < own.start) ⊎ (own.end ≤ i)) × IsUnchanged (range ∷ ranges) i)
    (λ before outside. let rest = IsUnchanged-joined own ranges i outside.1 in (rest.0, (outside.0, rest.1)))
    (λ touches. cond_both (ltb own.end range.start) (own ∷ range ∷ ranges) (joined both ranges) (λ all. IsUnchanged all i → ((i < own.start) ⊎ (own.end ≤ i)) × IsUnchanged (range ∷ ranges) i)
    (λ behind outside. outside)
    (λ overlaps outside.
    let rest = IsUnchanged-joined both ranges i outside in
    (⊎_elim (λ first. inl (omega (arith, first))) (λ last. inr (omega (arith, last))) rest.0, (⊎_elim (λ first. inl (omega (arith, first))) (λ last. inr (omega (arith, last))) rest.0, rest.1))))

pub length-joined : (own : Span) (ranges : List Span) → length (joined own ranges) ≤ length ranges + 1
length-joined own [] = omega arith
length-joined own (range ∷ ranges) =
    let both : Span = record { start = min own.start range.start; end = max own.end range.end } in
    let bound = length-joined own ranges in
    let bound_both = length-joined both ranges in
    cond_both (ltb range.end own.start) (range ∷ joined own ranges) (cond (ltb own.end range.start) (own ∷ range ∷ ranges) (joined both ranges)) (λ all. length all ≤ length (range ∷ ranges) + 1)
    (λ before. omega (arith, bound))
    (λ touches. cond_both (ltb own.end range.start) (own ∷ range ∷ ranges) (joined both ranges) (λ all. length all ≤ length (range ∷ ranges) + 1) (λ behind. omega arith) (λ overlaps. omega (arith, bound_both)))

-- a range that ends before all others stays as it is
pub joined-apart : (size : ℕ) (own : Span) (ranges : List Span) → own.start < own.end → LieApart (own.end + 1) size ranges → joined own ranges ≡ own ∷ ranges
joined-apart size own [] full apart = refl
joined-apart size own (range ∷ ranges) full apart = grind (arith, common_steps)

-- A thousand

pub LieApart-last_two_joined : (place size : ℕ) (ranges : List Span) → LieApart place size ranges → LieApart place size (last_two_joined ranges)
LieApart-last_two_joined place size [] apart = tt
LieApart-last_two_joined place size (last ∷ []) apart = apart
LieApart-last_two_joined place size (range ∷ last ∷ []) apart = (apart.0, omega (arith, apart.1, apart.3.0, apart.3.1), apart.3.2, tt)
LieApart-last_two_joined place size (range ∷ next ∷ after ∷ ranges) apart = (apart.0, apart.1, apart.2, LieApart-last_two_joined (range.end + 1) size (next ∷ after ∷ ranges) apart.3)

pub IsUnchanged-last_two_joined : (place size : ℕ) (ranges : List Span) (i : ℕ) → LieApart place size ranges → IsUnchanged (last_two_joined ranges) i → IsUnchanged ranges i
IsUnchanged-last_two_joined place size [] i apart outside = tt
IsUnchanged-last_two_joined place size (last ∷ []) i apart outside = outside
IsUnchanged-last_two_joined place size (range ∷ last ∷ []) i apart outside = grind (arith, common_steps)
IsUnchanged-last_two_joined place size (range ∷ next ∷ after ∷ ranges) i apart outside = (outside.0, IsUnchanged-last_two_joined (range.end + 1) size (next ∷ after ∷ ranges) i apart.3 outside.1)

length-last_two_joined : (range next : Span) (ranges : List Span) → length (last_two_joined (range ∷ next ∷ ranges)) ≡ length (next ∷ ranges)
length-last_two_joined range next [] = refl
length-last_two_joined range next (after ∷ ranges) = let rest = length-last_two_joined next after ranges in omega (arith, rest)

-- the last taken away, and the end of the one before moved to its end
pub last_two_joined-push : (ranges : List Span) (last before : Span) (k : ℕ) → k + 1 ≡ length ranges → before ≡ get_or ranges k before → set ranges k (record { start = before.start; end = last.end }) ≡ last_two_joined (ranges ++ last ∷ [])
last_two_joined-push [] last before k long is = absurd (omega arith)
last_two_joined-push (range ∷ []) last before zero long is = ap (λ (b : Span). record { start = b.start; end = last.end } ∷ []) is
last_two_joined-push (range ∷ []) last before (suc k) long is = absurd (omega arith)
last_two_joined-push (range ∷ next ∷ ranges) last before zero long is = absurd (omega arith)
last_two_joined-push (range ∷ next ∷ []) last before (suc k) long is = ap (λ (t : List Span). range ∷ t) (last_two_joined-push (next ∷ []) last before k (omega arith) is)
last_two_joined-push (range ∷ next ∷ after ∷ ranges) last before (suc k) long is = ap (λ (t : List Span). range ∷ t) (last_two_joined-push (next ∷ after ∷ ranges) last before k (omega arith) is)

pub LieApart-a_thousand_of : (place size : ℕ) (ranges : List Span) → LieApart place size ranges → LieApart place size (a_thousand_of ranges)
LieApart-a_thousand_of place size ranges apart =
    cond_both (leb (length ranges) 1_000) ranges (last_two_joined ranges) (λ kept. LieApart place size kept) (λ few. apart) (λ many. LieApart-last_two_joined place size ranges apart)

pub IsUnchanged-a_thousand_of : (place size : ℕ) (ranges : List Span) (i : ℕ) → LieApart place size ranges → IsUnchanged (a_thousand_of ranges) i → IsUnchanged ranges i
IsUnchanged-a_thousand_of place size ranges i apart =
    cond_both (leb (length ranges) 1_000) ranges (last_two_joined ranges) (λ kept. IsUnchanged kept i → IsUnchanged ranges i) (λ few outside. outside) (λ many outside. IsUnchanged-last_two_joined place size ranges i apart outside)

pub length-a_thousand_of : (ranges : List Span) → length ranges ≤ 1_001 → length (a_thousand_of ranges) ≤ 1_000
length-a_thousand_of [] few = lit≤ tt
length-a_thousand_of (range ∷ []) few = lit≤ tt
length-a_thousand_of (range ∷ next ∷ ranges) few = grind (arith, common_steps, cond_both, leb-true, length-last_two_joined)

-- A splice

pub LieApart-with_range : (size : ℕ) (own : Span) (ranges : List Span) → own.start ≤ own.end → own.end ≤ size → LieApart 0 size ranges → LieApart 0 size (with_range own ranges)
LieApart-with_range size own ranges rises within apart = grind (arith, common_steps, cond_both, joined, LieApart-a_thousand_of, LieApart-joined, eqb-false)

pub IsUnchanged-with_range : (size : ℕ) (own : Span) (ranges : List Span) (i : ℕ) → own.start ≤ own.end → own.end ≤ size → LieApart 0 size ranges → IsUnchanged (with_range own ranges) i → ((i < own.start) ⊎ (own.end ≤ i)) × IsUnchanged ranges i
IsUnchanged-with_range size own ranges i rises within apart =
    cond_both (eqb own.start own.end) ranges (a_thousand_of (joined own ranges)) (λ all. IsUnchanged all i → ((i < own.start) ⊎ (own.end ≤ i)) × IsUnchanged ranges i)
    (λ empty outside. (⊎_elim (λ before. inl before) (λ after. inr (let same = eqb-true own.start own.end empty in omega (arith, same, after))) (cases_lt i own.start), outside))
    (λ full outside. IsUnchanged-joined own ranges i (IsUnchanged-a_thousand_of 0 size (joined own ranges) i (LieApart-joined 0 size own ranges (omega arith) (let apart_ends = eqb-false own.start own.end full in omega (arith, rises, apart_ends)) within apart) outside))

pub length-with_range : (own : Span) (ranges : List Span) → length ranges ≤ 1_000 → length (with_range own ranges) ≤ 1_000
length-with_range own ranges few = grind (arith, common_steps, cond_both, joined, length-a_thousand_of, length-joined)
