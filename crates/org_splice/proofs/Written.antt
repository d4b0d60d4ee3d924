-- The patches of an edited text: they are well formed, fit each text that it was made from, and
-- make the text of it.
use Rattle.std.proofs.Common.{◌≡◌, inl, inr, ⊎_elim, ℕ, ◌+◌, ◌-◌, ◌<◌, ◌≤◌, ◌++◌, max, List, [], ◌∷◌, length, get_or, take, drop, map, Option, Some, refl, sym, ◌∙◌, ap, subst, arith, append_assoc, length-drop, length-take, lit≤}
use Rattle.std.proofs.lemmas.Grind.{common_steps}
use Rattle.std.specs.Prelude.{slice_get, slice_range, unwrap_or}
use Rattle.std.specs.List.{AllByRecursion}
use Rattle.std.proofs.lemmas.Bool.{cases_lt}
use Rattle.std.proofs.lemmas.List.{take-append-drop, drop-drop, length-map, take_all}
use Rattle.std.proofs.lemmas.Option.{slice_get-get_or, slice_get_within, unwrap_or-slice_get}
use Rattle.org_splice.specs.declared.Span.{Span}
use Rattle.org_splice.specs.Overwritten.{overwritten}
use Rattle.org_splice.specs.Patches.{patched_each, patched, end_of, last_end, Rise, AreWellFormed, BeginWithin, Fit, PatchedTo, IsOutside}
use Rattle.org_splice.specs.Ranges.{AreChanged, LieApart, IsUnchanged}
use Rattle.org_splice.specs.Texts.{IsEditOf, patch_of, patches_of}
use Rattle.org_splice.proofs.Patching.{patched-same}
use Rattle.org_splice.proofs.Apart.{LieApart-earlier}

-- no changed range reaches a position before all of them
IsUnchanged-before : (place size : ℕ) (ranges : List Span) (i : ℕ) → LieApart place size ranges → i < place → IsUnchanged ranges i
IsUnchanged-before place size [] i apart before = tt
IsUnchanged-before place size (range ∷ ranges) i apart before =
    (inl (omega (arith, apart.0, before)), IsUnchanged-before (range.end + 1) size ranges i apart.3 (omega (arith, apart.0, apart.1, before)))

module _ (bytes : List ℕ) where
  length-slice : (range : Span) → range.start < range.end → range.end ≤ length bytes → length (slice_range bytes range.start range.end) ≡ range.end - range.start
  length-slice range full within = omega (arith, full, within, length-take (range.end - range.start) (drop range.start bytes), length-drop range.start bytes)

  end_of-patch_of : (range : Span) → range.start < range.end → range.end ≤ length bytes → end_of (patch_of bytes range) ≡ range.end
  end_of-patch_of range full within = omega (arith, full, length-slice range full within)

  -- What the patches that write the ranges are

  Rise-ranges : (place : ℕ) (ranges : List Span) → LieApart place (length bytes) ranges → Rise place (map (patch_of bytes) ranges)
  Rise-ranges place [] apart = tt
  Rise-ranges place (range ∷ ranges) apart =
      (apart.0, subst (λ (p : ℕ). Rise p (map (patch_of bytes) ranges)) (sym (end_of-patch_of range apart.1 apart.2)) (Rise-ranges range.end ranges (LieApart-earlier (range.end + 1) range.end (length bytes) ranges (omega arith) apart.3)))

  last_end-ranges : (place : ℕ) (ranges : List Span) → place ≤ length bytes → LieApart place (length bytes) ranges → last_end place (map (patch_of bytes) ranges) ≤ length bytes
  last_end-ranges place [] within apart = within
  last_end-ranges place (range ∷ ranges) within apart = grind (arith, common_steps, last_end-ranges (end_of (patch_of bytes range)) ranges (omega (arith, apart.2, end_of-patch_of range apart.1 apart.2)) (LieApart-earlier (range.end + 1) (end_of (patch_of bytes range)) (length bytes) ranges (omega (arith, end_of-patch_of range apart.1 apart.2)) apart.3))

  full-ranges : (place : ℕ) (ranges : List Span) → LieApart place (length bytes) ranges → AllByRecursion (λ patch. 1 ≤ length patch.1) (map (patch_of bytes) ranges)
  full-ranges place [] apart = tt
  full-ranges place (range ∷ ranges) apart = (omega (arith, apart.1, length-slice range apart.1 apart.2), full-ranges (range.end + 1) ranges apart.3)

  -- a position in none of the patches is in none of the ranges
  IsUnchanged-ranges : (place : ℕ) (ranges : List Span) (i : ℕ) → LieApart place (length bytes) ranges → IsOutside (map (patch_of bytes) ranges) i → IsUnchanged ranges i
  IsUnchanged-ranges place [] i apart outside = tt
  IsUnchanged-ranges place (range ∷ ranges) i apart outside =
      (⊎_elim (λ before. inl before) (λ behind. inr (omega (arith, behind, end_of-patch_of range apart.1 apart.2))) outside.0, IsUnchanged-ranges (range.end + 1) ranges i apart.3 outside.1)

  -- They change nothing of their own text.

  overwritten-own : (range : Span) → range.start < range.end → range.end ≤ length bytes → overwritten range.start (slice_range bytes range.start range.end) bytes ≡ bytes
  overwritten-own range full within =
      ap (λ (n : ℕ). take range.start bytes ++ slice_range bytes range.start range.end ++ drop n bytes) (end_of-patch_of range full within)
      ∙ append_assoc (take range.start bytes) (slice_range bytes range.start range.end) (drop range.end bytes)
      ∙ ap (λ (t : List ℕ). take range.start bytes ++ (slice_range bytes range.start range.end ++ t))
      (ap (λ (n : ℕ). drop n bytes) (omega (arith, full)) ∙ sym (drop-drop (range.end - range.start) range.start bytes))
      ∙ ap (λ (t : List ℕ). take range.start bytes ++ t) (take-append-drop (range.end - range.start) (drop range.start bytes))
      ∙ take-append-drop range.start bytes

  patched_each-own : (place : ℕ) (ranges : List Span) → LieApart place (length bytes) ranges → patched_each (map (patch_of bytes) ranges) bytes ≡ bytes
  patched_each-own place [] apart = refl
  patched_each-own place (range ∷ ranges) apart = ap (patched_each (map (patch_of bytes) ranges)) (overwritten-own range apart.1 apart.2) ∙ patched_each-own (range.end + 1) ranges apart.3

  begin-own : (place other : ℕ) (ranges : List Span) → LieApart place (length bytes) ranges → BeginWithin (length bytes) other (map (patch_of bytes) ranges)
  begin-own place other [] apart = tt
  begin-own place other (range ∷ ranges) apart = (omega (arith, apart.1, apart.2), begin-own (range.end + 1) (end_of (patch_of bytes range)) ranges apart.3)

  -- They fit a text of this size if all after its end is in a range.

  module _ (size : ℕ) where
    begin-ranges : (place : ℕ) (ranges : List Span) → LieApart place (length bytes) ranges → ((i : ℕ) → place ≤ i → i < length bytes → IsUnchanged ranges i → i < size) → BeginWithin size place (map (patch_of bytes) ranges)
    begin-ranges place [] apart old = tt
    begin-ranges place (range ∷ ranges) apart old =
        let ends : end_of (patch_of bytes range) ≡ range.end = end_of-patch_of range apart.1 apart.2 in
        let after : LieApart range.end (length bytes) ranges = LieApart-earlier (range.end + 1) range.end (length bytes) ranges (omega arith) apart.3 in
        let rest : BeginWithin size range.end (map (patch_of bytes) ranges) = begin-ranges range.end ranges after (λ i behind below outside. old i (omega (arith, apart.0, apart.1, behind)) below (inr behind, outside)) in (
          ⊎_elim
              (λ gap.
              let before : range.start - 1 < range.start = omega (arith, gap) in
              let kept : range.start - 1 < size = old (range.start - 1) (omega (arith, gap)) (omega (arith, apart.1, apart.2)) (inl before, IsUnchanged-before (range.end + 1) (length bytes) ranges (range.start - 1) apart.3 (omega (arith, apart.1))) in
              absurd (omega (arith, gap, kept)))
              (λ none. none)
              (cases_lt (max size place) range.start),
          subst (λ (p : ℕ). BeginWithin size p (map (patch_of bytes) ranges)) (sym ends) rest,
        )

    ends-ranges : (place : ℕ) (ranges : List Span) → LieApart place (length bytes) ranges → ((i : ℕ) → place ≤ i → i < length bytes → IsUnchanged ranges i → i < size) → length bytes ≤ max size (last_end place (map (patch_of bytes) ranges))
    ends-ranges place [] apart old =
        ⊎_elim
        (λ gap. let kept : length bytes - 1 < size = old (length bytes - 1) (omega (arith, gap)) (omega (arith, gap)) tt in absurd (omega (arith, gap, kept)))
        (λ none. none)
        (cases_lt (max size place) (length bytes))
    ends-ranges place (range ∷ ranges) apart old =
        let ends : end_of (patch_of bytes range) ≡ range.end = end_of-patch_of range apart.1 apart.2 in
        let after : LieApart range.end (length bytes) ranges = LieApart-earlier (range.end + 1) range.end (length bytes) ranges (omega arith) apart.3 in
        let rest : length bytes ≤ max size (last_end range.end (map (patch_of bytes) ranges)) = ends-ranges range.end ranges after (λ i behind below outside. old i (omega (arith, apart.0, apart.1, behind)) below (inr behind, outside)) in
        subst (λ (p : ℕ). length bytes ≤ max size (last_end p (map (patch_of bytes) ranges))) (sym ends) rest

-- The patches of a text

pub AreWellFormed-patches_of : (bytes : List ℕ) (changed : List Span) → AreChanged (length bytes) changed → AreWellFormed (patches_of (record { bytes = bytes; changed = changed })) (length bytes)
AreWellFormed-patches_of bytes [] are = record { some = lit≤ tt; few = lit≤ tt; rise = (omega arith, tt); full = inl refl; within = omega arith }
AreWellFormed-patches_of bytes (range ∷ ranges) are = record {
  some = omega arith;
  few = omega (arith, are.few, length-map (range ∷ ranges) (patch_of bytes));
  rise = Rise-ranges bytes 0 (range ∷ ranges) are.apart;
  full = inr (full-ranges bytes 0 (range ∷ ranges) are.apart);
  within = last_end-ranges bytes 0 (range ∷ ranges) (omega arith) are.apart;
}

module _ (old bytes : List ℕ) (changed : List Span) (are : AreChanged (length bytes) changed) (edit : IsEditOf old (record { bytes = bytes; changed = changed })) where
  read : (i : ℕ) → i < length bytes → IsUnchanged changed i → slice_get old i ≡ Some (get_or bytes i 0)
  read i below outside = edit.same i below outside ∙ slice_get-get_or bytes i 0 below

  fit : Fit (map (patch_of bytes) changed) (length bytes) (length old)
  fit = record {
    begin = begin-ranges bytes (length old) 0 changed are.apart (λ i from below outside. slice_get_within old i (get_or bytes i 0) (read i below outside));
    ends = ends-ranges bytes (length old) 0 changed are.apart (λ i from below outside. slice_get_within old i (get_or bytes i 0) (read i below outside));
  }

  makes : patched (map (patch_of bytes) changed) (length bytes) old ≡ bytes
  makes =
      patched-same (map (patch_of bytes) changed) (length bytes) old bytes (Rise-ranges bytes 0 changed are.apart) fit (record { begin = begin-own bytes 0 0 changed are.apart; ends = omega arith }) (λ i below outside.
      let is = read i below (IsUnchanged-ranges bytes 0 changed i are.apart outside) in
      sym (unwrap_or-slice_get old i 0) ∙ ap (λ (o : Option ℕ). unwrap_or o 0) is)
      ∙ ap (take (length bytes)) (patched_each-own bytes 0 changed are.apart)
      ∙ take_all (length bytes) bytes (omega arith)

pub PatchedTo-patches_of : (old bytes : List ℕ) (changed : List Span) → AreChanged (length bytes) changed → IsEditOf old (record { bytes = bytes; changed = changed }) → PatchedTo (patches_of (record { bytes = bytes; changed = changed })) (length bytes) old bytes
PatchedTo-patches_of old bytes [] are edit = record { fit = record { begin = (omega arith, tt); ends = (fit old bytes [] are edit).ends }; makes = makes old bytes [] are edit }
PatchedTo-patches_of old bytes (range ∷ ranges) are edit = record { fit = fit old bytes (range ∷ ranges) are edit; makes = makes old bytes (range ∷ ranges) are edit }
