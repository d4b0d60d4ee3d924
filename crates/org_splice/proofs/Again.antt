-- Applying twice is applying once, also where only a part of the work was done the first time.
use Rattle.std.proofs.Common.{◌≡◌, ◌⊎◌, inl, inr, ⊎_elim, ℕ, zero, suc, ◌+◌, ◌-◌, ◌<◌, ◌≤◌, min, List, [], ◌∷◌, length, get_or, take, drop, Some, sym, ◌∙◌, ap, subst, arith, length-drop, length-take}
use Rattle.std.proofs.lemmas.Grind.{common_steps}
use Rattle.std.specs.Prelude.{slice_get}
use Rattle.std.proofs.lemmas.Bool.{cases_lt}
use Rattle.std.proofs.lemmas.List.{get_or-drop, get_or-take}
use Rattle.org_splice.specs.Patches.{end_of, last_end, Rise, AreWellFormed, BeginWithin, Fit, PatchedTo, IsOutside, IsPartlyPatched}
use Rattle.org_splice.proofs.Patching.{last_end-place, length-patched, patched-outside, patched-same}

-- Patches that fit a text of one size, and another size

-- what begins within a text of one size begins within one of another, if that is no shorter or
-- reaches the final length
begin_shorter : (size other final place : ℕ) (patches : List (ℕ × List ℕ)) → min size final ≤ other → Rise place patches → last_end place patches ≤ final → BeginWithin size place patches → BeginWithin other place patches
begin_shorter size other final place [] long rise within begin = tt
begin_shorter size other final place (patch ∷ patches) long rise within begin = grind (arith, common_steps, end_of, last_end-place, begin_shorter size other final (end_of patch) patches long rise.1 within begin.1)

pub Fit-between : (patches : List (ℕ × List ℕ)) (final size other : ℕ) → Rise 0 patches → last_end 0 patches ≤ final → min size final ≤ other → Fit patches final size → Fit patches final other
Fit-between patches final size other rise within long fit = grind (arith, common_steps, begin_shorter)

-- the sizes don't matter to the patches that begin after them
begin_behind : (size other place : ℕ) (patches : List (ℕ × List ℕ)) → size ≤ place → Rise place patches → BeginWithin size place patches → BeginWithin other place patches
begin_behind size other place [] short rise begin = tt
begin_behind size other place (patch ∷ patches) short rise begin =
    (omega (arith, begin.0, short), begin_behind size other (end_of patch) patches (omega (arith, rise.0, short)) rise.1 begin.1)

-- one of these patches lies between the first place and the last end
inside_all : (place : ℕ) (patches : List (ℕ × List ℕ)) (k from : ℕ) (bytes : List ℕ) → Rise place patches → slice_get patches k ≡ Some (from, bytes) → (place ≤ from) × (from + length bytes ≤ last_end place patches)
inside_all place [] k from bytes rise is = cc
inside_all place (patch ∷ patches) zero from bytes rise is = grind (arith, common_steps, last_end-place, end_of)
inside_all place (patch ∷ patches) (suc k) from bytes rise is = grind (arith, common_steps, inside_all (end_of patch) patches k from bytes rise.1 is)

-- a position outside all of them is outside this one
outside_one : (patches : List (ℕ × List ℕ)) (k from : ℕ) (bytes : List ℕ) (i : ℕ) → slice_get patches k ≡ Some (from, bytes) → IsOutside patches i → (i < from) ⊎ (from + length bytes ≤ i)
outside_one [] k from bytes i is outside = cc
outside_one (patch ∷ patches) zero from bytes i is outside = grind (arith, common_steps)
outside_one (patch ∷ patches) (suc k) from bytes i is outside = outside_one patches k from bytes i is outside.1

-- two sizes within one of these patches are as good as one another
begin_at : (size other place : ℕ) (patches : List (ℕ × List ℕ)) (k from : ℕ) (bytes : List ℕ) → slice_get patches k ≡ Some (from, bytes) → size ≤ from + length bytes → from ≤ other → Rise place patches
    → BeginWithin size place patches → BeginWithin other place patches
begin_at size other place [] k from bytes is short long rise begin = tt
begin_at size other place (patch ∷ patches) zero from bytes is short long rise begin = grind (arith, common_steps, begin_behind, end_of)
begin_at size other place (patch ∷ patches) (suc k) from bytes is short long rise begin =
    (omega (arith, (inside_all (end_of patch) patches k from bytes rise.1 is).0, long), begin_at size other (end_of patch) patches k from bytes is short long rise.1 begin.1)

-- Texts on which a part of the work may have been done

-- They take the same patches to the same text.
pub PatchedTo-partly : (patches : List (ℕ × List ℕ)) (final : ℕ) (text part to : List ℕ) → AreWellFormed patches final → IsPartlyPatched patches final text part → PatchedTo patches final text to → PatchedTo patches final part to
PatchedTo-partly patches final text part to formed partly applies = grind (arith, common_steps, Fit-between, patched-same)

-- so does the text that they make: applying twice is applying once
pub IsPartlyPatched-patched : (patches : List (ℕ × List ℕ)) (final : ℕ) (text to : List ℕ) → AreWellFormed patches final → PatchedTo patches final text to → IsPartlyPatched patches final text to
IsPartlyPatched-patched patches final text to formed applies = grind (arith, common_steps, length-patched, patched-outside)

pub PatchedTo-twice : (patches : List (ℕ × List ℕ)) (final : ℕ) (text to : List ℕ) → AreWellFormed patches final → PatchedTo patches final text to → PatchedTo patches final to to
PatchedTo-twice patches final text to formed applies = PatchedTo-partly patches final text to to formed (IsPartlyPatched-patched patches final text to formed applies) applies

-- The same of two texts, where one differs from the other only where a call may have changed it

-- equal outside one of the patches: what a write of it, done in part, may leave
pub PatchedTo-written : (patches : List (ℕ × List ℕ)) (final : ℕ) (a b to : List ℕ) (k from : ℕ) (bytes : List ℕ) → AreWellFormed patches final → slice_get patches k ≡ Some (from, bytes)
    → take from a ≡ take from b → drop (from + length bytes) a ≡ drop (from + length bytes) b → PatchedTo patches final b to → PatchedTo patches final a to
PatchedTo-written patches final a b to k from bytes formed is before after applies =
    let fronts : min from (length a) ≡ min from (length b) = sym (length-take from a) ∙ ap length before ∙ length-take from b in
    let backs : length a - (from + length bytes) ≡ length b - (from + length bytes) = sym (length-drop (from + length bytes) a) ∙ ap length after ∙ length-drop (from + length bytes) b in
    let within : from + length bytes ≤ last_end 0 patches = (inside_all 0 patches k from bytes formed.rise is).1 in
    let begin : BeginWithin (length a) 0 patches = ⊎_elim
    (λ (short : length b < from). subst (λ (n : ℕ). BeginWithin n 0 patches) (omega (arith, short, fronts, backs)) applies.fit.begin)
    (λ (long : from ≤ length b). ⊎_elim
    (λ (past : from + length bytes < length b). subst (λ (n : ℕ). BeginWithin n 0 patches) (omega (arith, past, fronts, backs)) applies.fit.begin)
    (λ (inside : length b ≤ from + length bytes). begin_at (length b) (length a) 0 patches k from bytes is inside (omega (arith, long, fronts)) formed.rise applies.fit.begin)
    (cases_lt (from + length bytes) (length b)))
    (cases_lt (length b) from) in
    let fit : Fit patches final (length a) = record { begin = begin; ends = omega (arith, applies.fit.ends, fronts, backs, within) } in
    record { fit = fit; makes = patched-same patches final a b formed.rise fit applies.fit (λ i below outside. agree i (outside_one patches k from bytes i is outside)) ∙ applies.makes }
  where
    agree : (i : ℕ) → (i < from) ⊎ (from + length bytes ≤ i) → get_or a i 0 ≡ get_or b i 0
    agree i (inl first) = sym (get_or-take from a i 0 first) ∙ ap (λ (t : List ℕ). get_or t i 0) before ∙ get_or-take from b i 0 first
    agree i (inr last) =
        let place : from + length bytes + (i - (from + length bytes)) ≡ i = omega (arith, last) in
        ap (λ (j : ℕ). get_or a j 0) (sym place) ∙ sym (get_or-drop (from + length bytes) a (i - (from + length bytes)) 0) ∙ ap (λ (t : List ℕ). get_or t (i - (from + length bytes)) 0) after
        ∙ get_or-drop (from + length bytes) b (i - (from + length bytes)) 0 ∙ ap (λ (j : ℕ). get_or b j 0) place

-- equal below the final length: what a cut to it, done in part, may leave
pub PatchedTo-cut : (patches : List (ℕ × List ℕ)) (final : ℕ) (a b to : List ℕ) → AreWellFormed patches final → take final a ≡ take final b → PatchedTo patches final b to → PatchedTo patches final a to
PatchedTo-cut patches final a b to formed same applies =
    let fronts : min final (length a) ≡ min final (length b) = sym (length-take final a) ∙ ap length same ∙ length-take final b in
    let fit : Fit patches final (length a) = Fit-between patches final (length b) (length a) formed.rise formed.within (omega (arith, fronts)) applies.fit in
    record {
      fit = fit;
      makes = patched-same patches final a b formed.rise fit applies.fit (λ i below outside. sym (get_or-take final a i 0 below) ∙ ap (λ (t : List ℕ). get_or t i 0) same ∙ get_or-take final b i 0 below) ∙ applies.makes;
    }
