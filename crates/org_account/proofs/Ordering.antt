-- One pass over the units of a folder: for each row, whether what stands below it rises in another.
use Rattle.std.proofs.Common.{◌≡◌, ℕ, suc, ◌+◌, ◌<◌, ◌≤◌, List, length, get_or, Option, None, Some, true, false, refl, sym, ap, subst, ◌∙◌, arith, inl, inr}
use Rattle.std.specs.Prelude.{◌⊎◌, Bool, IsTrue, slice_get}
use Rattle.std.specs.Option.{option_map, option_and_then}
use Rattle.std.proofs.Math.ListN.{set, length-set}
use Rattle.std.proofs.lemmas.Bool.{cases_eq}
use Rattle.std.proofs.lemmas.Option.{same_Some, none-some, slice_get_within}
use Rattle.std.proofs.lemmas.List.{get_or-set_same, get_or-set_other, get_or_default}
use Rattle.org_account.specs.declared.table.Row.{Row}
use Rattle.org_account.specs.Units.{Unit}
use Rattle.org_account.specs.Table.{Seen, seen}
use Rattle.org_account.specs.Order.{Placed, AreBelow, IsKnown, AreKnown, IsDecided, AreDecided, is_allowed, row_above}
use Rattle.org_account.specs.Account.{Folders, AreOrdered, IsToldOrder}

below_or : (j k : ℕ) → j < k + 1 → (j < k) ⊎ (j ≡ k)
below_or j k lt = elim (cases_eq j k) [ inl same ↦ inr same | inr other ↦ inl (omega (arith, other)) ]

false-no : {A : Type 0} → IsTrue false → A
false-no h = absurd (grind arith)

-- only units that are there stand below another one
pub above_within : (placed : Placed) (u p : ℕ) → row_above placed u ≡ Some p → u < length placed.units
above_within placed u p e = by_unit (slice_get placed.units u) refl e
  where
    by_unit : (r : Option Unit) → slice_get placed.units u ≡ r → option_and_then (λ (s : Seen). s.above) (option_map (seen placed.rows) r) ≡ Some p → u < length placed.units
    by_unit None is e = absurd (none-some p e)
    by_unit (Some unit) is e = slice_get_within placed.units u unit is

module _ (table : List Row) (first second : Placed) where
  one_number : (p q u v w : ℕ) → AreBelow table first second p u v → AreBelow table first second q u w → w ≡ v
  one_number p q u v w b c = same_Some w v (sym c.one ∙ b.one)

  one_row : (p q u v w : ℕ) → AreBelow table first second p u v → AreBelow table first second q u w → q ≡ p
  one_row p q u v w b c = same_Some q p (sym c.in_first ∙ b.in_first)

  at_unit : (p i u v : ℕ) → i ≡ u → AreBelow table first second p i v → AreBelow table first second p u v
  at_unit p i u v same b = subst (λ (n : ℕ). AreBelow table first second p n v) same b

  -- the last number, as before
  last_on : (u p last : ℕ) → (last ≡ 0) ⊎ ((i : ℕ) × ((v : ℕ) × (i < u) × AreBelow table first second p i v × (last ≡ suc v)))
      → (last ≡ 0) ⊎ ((i : ℕ) × ((v : ℕ) × (i < u + 1) × AreBelow table first second p i v × (last ≡ suc v)))
  last_on u p last is = elim is [ inl none ↦ inl none | inr x ↦ let less : x.0 < u = x.1.1 in inr (x.0, (x.1.0, omega (arith, less), x.1.2, x.1.3)) ]

  -- a unit that isn't below the row
  over : (u p last : ℕ) (same : Bool) → ((v : ℕ) → AreBelow table first second p u v → ⊥) → IsKnown table first second u p last same → IsKnown table first second (u + 1) p last same
  over u p last same none k = record {
    below = λ yes i v lt b. elim (below_or i u lt) [ inl less ↦ k.below yes i v less b | inr here ↦ absurd (none v (at_unit p i u v here b)) ];
    rising = λ yes i j v w lt b c up. elim (below_or j u lt) [ inl less ↦ k.rising yes i j v w less b c up | inr here ↦ absurd (none w (at_unit p j u w here c)) ];
    last_is = last_on u p last k.last_is;
    other = k.other;
  }

  -- a unit with a greater number
  rise : (u p v last : ℕ) (same : Bool) → AreBelow table first second p u v → last ≤ v → IsKnown table first second u p last same → IsKnown table first second (u + 1) p (v + 1) same
  rise u p v last same here up k = record {
    below = λ yes i w lt b. elim (below_or i u lt) [
      | inl less ↦ omega (arith, k.below yes i w less b, up)
      | inr is ↦ omega (arith, one_number p p u v w here (at_unit p i u w is b))
    ];
    rising = λ yes i j a w lt b c less. elim (below_or j u lt) [
      | inl before ↦ k.rising yes i j a w before b c less
      | inr is ↦ omega (arith, one_number p p u v w here (at_unit p j u w is c), k.below yes i a (omega (arith, less, is)) b, up)
    ];
    last_is = inr (u, (v, omega arith, here, omega arith));
    other = k.other;
  }

  -- a unit with a lesser number
  fall : (u p v last : ℕ) (same : Bool) → AreBelow table first second p u v → v < last → IsKnown table first second u p last same → IsKnown table first second (u + 1) p last false
  fall u p v last same here down k = record {
    below = λ yes i w lt b. false-no yes;
    rising = λ yes i j a w lt b c less. false-no yes;
    last_is = last_on u p last k.last_is;
    other = λ is all. elim k.last_is [
      | inl none ↦ omega (arith, none, down)
      | inr x ↦ let less : x.0 < u = x.1.1 in let w : ℕ = x.1.0 in let last_of : last ≡ suc w = x.1.3 in
          let up : w < v = all x.0 u w v x.1.2 here less in omega (arith, up, down, last_of)
    ];
  }

  -- the same of all rows
  pub known_none : (u : ℕ) (last : List ℕ) (same : List Bool) → ((p v : ℕ) → AreBelow table first second p u v → ⊥) → AreKnown table first second u last same → AreKnown table first second (u + 1) last same
  known_none u last same none k = record {
    last_all = k.last_all;
    same_all = k.same_all;
    each = λ p lt. over u p (get_or last p 0) (get_or same p true) (none p) (k.each p lt);
  }

  pub known_beside : (u p v : ℕ) (last : List ℕ) (same : List Bool) → AreBelow table first second p u v → length table ≤ p → AreKnown table first second u last same → AreKnown table first second (u + 1) last same
  known_beside u p v last same here far k = record {
    last_all = k.last_all;
    same_all = k.same_all;
    each = λ q lt. over u q (get_or last q 0) (get_or same q true) (λ w b. let is : q ≡ p = one_row p q u v w here b in omega (arith, is, lt, far)) (k.each q lt);
  }

  pub known_rise : (u p v : ℕ) (last : List ℕ) (same : List Bool) → AreBelow table first second p u v → p < length table → get_or last p 0 ≤ v → AreKnown table first second u last same → AreKnown table first second (u + 1) (set last p (v + 1)) same
  known_rise u p v last same here within up k = record {
    last_all = length-set last p (v + 1) ∙ k.last_all;
    same_all = k.same_all;
    each = λ q lt. elim (cases_eq q p) [
      | inl is ↦
          let at : get_or (set last p (v + 1)) q 0 ≡ v + 1 = ap (λ n. get_or (set last p (v + 1)) n 0) is ∙ get_or-set_same last p (v + 1) 0 (omega (arith, within, k.last_all)) in
          subst (λ (n : ℕ). IsKnown table first second (u + 1) q n (get_or same q true)) (sym at)
          (subst (λ (n : ℕ). IsKnown table first second (u + 1) n (v + 1) (get_or same n true)) (sym is) (rise u p v (get_or last p 0) (get_or same p true) here up (k.each p within)))
      | inr other ↦
          let at : get_or (set last p (v + 1)) q 0 ≡ get_or last q 0 = get_or-set_other last p q (v + 1) 0 other in
          subst (λ (n : ℕ). IsKnown table first second (u + 1) q n (get_or same q true)) (sym at)
          (over u q (get_or last q 0) (get_or same q true) (λ w b. other (one_row p q u v w here b)) (k.each q lt))
    ];
  }

  pub known_fall : (u p v : ℕ) (last : List ℕ) (same : List Bool) → AreBelow table first second p u v → p < length table → v < get_or last p 0 → AreKnown table first second u last same → AreKnown table first second (u + 1) last (set same p false)
  known_fall u p v last same here within down k = record {
    last_all = k.last_all;
    same_all = length-set same p false ∙ k.same_all;
    each = λ q lt. elim (cases_eq q p) [
      | inl is ↦
          let at : get_or (set same p false) q true ≡ false = ap (λ n. get_or (set same p false) n true) is ∙ get_or-set_same same p false true (omega (arith, within, k.same_all)) in
          subst (λ (b : Bool). IsKnown table first second (u + 1) q (get_or last q 0) b) (sym at)
          (subst (λ (n : ℕ). IsKnown table first second (u + 1) n (get_or last n 0) false) (sym is) (fall u p v (get_or last p 0) (get_or same p true) here down (k.each p within)))
      | inr other ↦
          let at : get_or (set same p false) q true ≡ get_or same q true = get_or-set_other same p q false true other in
          subst (λ (b : Bool). IsKnown table first second (u + 1) q (get_or last q 0) b) (sym at)
          (over u q (get_or last q 0) (get_or same q true) (λ w b. other (one_row p q u v w here b)) (k.each q lt))
    ];
  }

  pub decided : (n : ℕ) (last : List ℕ) (same : List Bool) → length first.units ≤ n → AreKnown table first second n last same → AreDecided table first second same
  decided n last same all k = record {
    all = k.same_all;
    each = λ p lt. record {
      yes = λ yes u v i j b c less. (k.each p lt).rising yes u v i j (omega (arith, above_within first v p c.in_first, all)) b c less;
      no = (k.each p lt).other;
    };
  }

-- what was decided of a row
pub decided_at : (table : List Row) (one other first second : Placed) (k : ℕ) (same : List Bool) (b : Bool) → one ≡ first → other ≡ second → k < length table → b ≡ get_or same k b
    → AreDecided table one other same → IsDecided table first second k b
decided_at table one other first second k same b first_is second_is lt is all =
    let at : b ≡ get_or same k true = is ∙ get_or_default same k b true (omega (arith, lt, all.all)) in
    subst (λ (x : Placed). IsDecided table x second k b) first_is
    (subst (λ (x : Placed). IsDecided table one x k b) second_is
    (subst (λ (x : Bool). IsDecided table one other k x) (sym at) (all.each k lt)))

-- an allowed order is one
pub allowed : (table : List Row) (of : Folders) (told : List ℕ) (p : ℕ) (merged_ours merged_theirs sides base_ours base_theirs is_told : Bool)
    → IsTrue (is_allowed merged_ours merged_theirs sides base_ours base_theirs is_told) → (IsTrue is_told → IsToldOrder told)
    → IsDecided table of.merged of.ours p merged_ours → IsDecided table of.merged of.theirs p merged_theirs → IsDecided table of.ours of.theirs p sides
    → IsDecided table of.base of.ours p base_ours → IsDecided table of.base of.theirs p base_theirs → AreOrdered table of told p
allowed table of told p true true s bo bt is_told h tells mo mt d ob tb = inl (mo.yes refl, mt.yes refl)
allowed table of told p true false true bo bt is_told h tells mo mt d ob tb = false-no h
allowed table of told p true false false bo true is_told h tells mo mt d ob tb = inr (d.no refl, inl (mo.yes refl, inl (tb.yes refl)))
allowed table of told p true false false bo false true h tells mo mt d ob tb = inr (d.no refl, inl (mo.yes refl, inr (tells refl)))
allowed table of told p true false false bo false false h tells mo mt d ob tb = false-no h
allowed table of told p false true true bo bt is_told h tells mo mt d ob tb = false-no h
allowed table of told p false true false true bt is_told h tells mo mt d ob tb = inr (d.no refl, inr (mt.yes refl, ob.yes refl))
allowed table of told p false true false false bt is_told h tells mo mt d ob tb = false-no h
allowed table of told p false false true bo bt is_told h tells mo mt d ob tb = false-no h
allowed table of told p false false false bo bt is_told h tells mo mt d ob tb = false-no h
