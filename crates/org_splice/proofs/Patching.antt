-- Patches applied to texts: what stands where afterwards, and that a text on which a part of the
-- work was done takes the same patches to the same text.
use Rattle.std.proofs.Common.{◌≡◌, inl, inr, ⊎_elim, ℕ, ◌<◌, ◌≤◌, max, List, [], ◌∷◌, length, get_or, refl, sym, ◌∙◌, arith, length-take}
use Rattle.std.proofs.lemmas.Bool.{cases_lt}
use Rattle.std.proofs.lemmas.List.{get_or-take, ext_get_or}
use Rattle.org_splice.specs.Overwritten.{overwritten}
use Rattle.org_splice.specs.Patches.{patched_each, patched, end_of, last_end, Rise, BeginWithin, Fit, IsOutside}
use Rattle.org_splice.proofs.Overwritten.{length-overwritten, overwritten-outside, overwritten-inside}

-- Patches, one after the other

pub last_end-place : (place : ℕ) (patches : List (ℕ × List ℕ)) → Rise place patches → place ≤ last_end place patches
last_end-place place [] rise = omega arith
last_end-place place (patch ∷ patches) rise = omega (arith, rise.0, last_end-place (end_of patch) patches rise.1)

-- A text that reaches as far as a text of this size and the patches up to this place do. With the
-- patches after it applied to it, it reaches as far as they do.
pub length-patched_each : (size place : ℕ) (patches : List (ℕ × List ℕ)) (text : List ℕ) → length text ≡ max size place → Rise place patches → BeginWithin size place patches → length (patched_each patches text) ≡ max size (last_end place patches)
length-patched_each size place [] text long rise begin = long
length-patched_each size place (patch ∷ patches) text long rise begin =
    length-patched_each size (end_of patch) patches (overwritten patch.0 patch.1 text) (omega (arith, long, rise.0, begin.0, length-overwritten patch.0 patch.1 text (omega (arith, long, begin.0)))) rise.1 begin.1

pub patched_each-outside : (size place : ℕ) (patches : List (ℕ × List ℕ)) (text : List ℕ) (i : ℕ) → length text ≡ max size place → Rise place patches → BeginWithin size place patches → IsOutside patches i
    → get_or (patched_each patches text) i 0 ≡ get_or text i 0
patched_each-outside size place [] text i long rise begin outside = refl
patched_each-outside size place (patch ∷ patches) text i long rise begin outside =
    let fits : patch.0 ≤ length text = omega (arith, long, begin.0) in
    patched_each-outside size (end_of patch) patches (overwritten patch.0 patch.1 text) i (omega (arith, long, rise.0, begin.0, length-overwritten patch.0 patch.1 text fits)) rise.1 begin.1 outside.1
    ∙ overwritten-outside patch.0 patch.1 text i fits outside.0

-- texts that agree at a place, if it is outside the patches, agree there after the patches
pub patched_each-same : (size other place : ℕ) (patches : List (ℕ × List ℕ)) (a b : List ℕ) (i : ℕ)
    → length a ≡ max size place → length b ≡ max other place → Rise place patches → BeginWithin size place patches → BeginWithin other place patches
    → (IsOutside patches i → get_or a i 0 ≡ get_or b i 0) → get_or (patched_each patches a) i 0 ≡ get_or (patched_each patches b) i 0
patched_each-same size other place [] a b i long_a long_b rise begin_a begin_b same = same tt
patched_each-same size other place (patch ∷ patches) a b i long_a long_b rise begin_a begin_b same =
    let fits_a : patch.0 ≤ length a = omega (arith, long_a, begin_a.0) in
    let fits_b : patch.0 ≤ length b = omega (arith, long_b, begin_b.0) in
    patched_each-same size other (end_of patch) patches (overwritten patch.0 patch.1 a) (overwritten patch.0 patch.1 b) i
    (omega (arith, long_a, rise.0, begin_a.0, length-overwritten patch.0 patch.1 a fits_a)) (omega (arith, long_b, rise.0, begin_b.0, length-overwritten patch.0 patch.1 b fits_b)) rise.1 begin_a.1 begin_b.1
    (λ outside. ⊎_elim
    (λ before. overwritten-outside patch.0 patch.1 a i fits_a (inl before) ∙ same (inl before, outside) ∙ sym (overwritten-outside patch.0 patch.1 b i fits_b (inl before)))
    (λ behind. ⊎_elim
    (λ inside. overwritten-inside patch.0 patch.1 a i fits_a behind inside ∙ sym (overwritten-inside patch.0 patch.1 b i fits_b behind inside))
    (λ after. overwritten-outside patch.0 patch.1 a i fits_a (inr after) ∙ same (inr after, outside) ∙ sym (overwritten-outside patch.0 patch.1 b i fits_b (inr after)))
    (cases_lt i (end_of patch)))
    (cases_lt i patch.0))

-- What patches that rise make of a text

pub length-patched : (patches : List (ℕ × List ℕ)) (final : ℕ) (text : List ℕ) → Rise 0 patches → Fit patches final (length text) → length (patched patches final text) ≡ final
length-patched patches final text rise fit =
    omega (arith, fit.ends, length-take final (patched_each patches text), length-patched_each (length text) 0 patches text (omega arith) rise fit.begin)

pub patched-outside : (patches : List (ℕ × List ℕ)) (final : ℕ) (text : List ℕ) (i : ℕ) → Rise 0 patches → Fit patches final (length text) → i < final → IsOutside patches i → get_or (patched patches final text) i 0 ≡ get_or text i 0
patched-outside patches final text i rise fit below outside =
    get_or-take final (patched_each patches text) i 0 below ∙ patched_each-outside (length text) 0 patches text i (omega arith) rise fit.begin outside

-- one text of two that agree outside the patches
pub patched-same : (patches : List (ℕ × List ℕ)) (final : ℕ) (a b : List ℕ) → Rise 0 patches → Fit patches final (length a) → Fit patches final (length b)
    → ((i : ℕ) → i < final → IsOutside patches i → get_or a i 0 ≡ get_or b i 0) → patched patches final a ≡ patched patches final b
patched-same patches final a b rise fit_a fit_b same =
    ext_get_or 0 (patched patches final a) (patched patches final b) (length-patched patches final a rise fit_a ∙ sym (length-patched patches final b rise fit_b)) (λ i within.
    let below : i < final = omega (arith, within, length-patched patches final a rise fit_a) in
    get_or-take final (patched_each patches a) i 0 below
    ∙ patched_each-same (length a) (length b) 0 patches a b i (omega arith) (omega arith) rise fit_a.begin fit_b.begin (same i below)
    ∙ sym (get_or-take final (patched_each patches b) i 0 below))
