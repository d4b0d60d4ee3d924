-- The patches of an entry, one after the other.
use Rattle.std.proofs.Common.{◌≡◌, ℕ, zero, suc, ◌+◌, ◌<◌, ◌≤◌, ◌++◌, max, List, [], ◌∷◌, length, get_or, take, Some, refl, ◌∙◌, ap, arith, map}
use Rattle.std.proofs.lemmas.Grind.{common_steps}
use Rattle.std.specs.Prelude.{slice_get}
use Rattle.std.proofs.lemmas.List.{take_more, take_all, length-map}
use Rattle.std.proofs.lemmas.Option.{slice_get_read, slice_get-map, get_or_from_slice_get, slice_get_within}
use Rattle.org_splice.specs.Overwritten.{overwritten}
use Rattle.org_splice.specs.Texts.{pairs_of}
use Rattle.org_splice.specs.Patches.{patched_each, end_of, last_end, Rise, BeginWithin, Fit, AreWellFormed, patched}
use Rattle.org_splice.proofs.Patching.{length-patched_each, last_end-place}
use Rattle.org_splice.specs.declared.patch.Patch.{Patch}

-- the pair of an item
pub pair_at : (items patches : List Patch) (k : ℕ) (patch : Patch) → items ≡ patches → k < length items → patch ≡ get_or items k patch
    → slice_get (pairs_of patches) k ≡ Some (patch.from, patch.bytes)
pair_at items patches k patch same within is = grind (arith, common_steps, slice_get-map, slice_get_read)

patched_each-append : (first later : List (ℕ × List ℕ)) (text : List ℕ) → patched_each (first ++ later) text ≡ patched_each later (patched_each first text)
patched_each-append [] later text = refl
patched_each-append (patch ∷ first) later text = patched_each-append first later (overwritten patch.0 patch.1 text)

-- one patch more
pub patched_each-more : (patches : List (ℕ × List ℕ)) (k from : ℕ) (bytes text : List ℕ) → slice_get patches k ≡ Some (from, bytes)
    → patched_each (take (k + 1) patches) text ≡ overwritten from bytes (patched_each (take k patches) text)
patched_each-more patches k from bytes text is =
    ap (λ (l : List (ℕ × List ℕ)). patched_each l text)
    (take_more patches k (from, bytes) (slice_get_within patches k (from, bytes) is)
    ∙ ap (λ (p : ℕ × List ℕ). take k patches ++ p ∷ []) (get_or_from_slice_get patches k (from, bytes) (from, bytes) is))
    ∙ patched_each-append (take k patches) ((from, bytes) ∷ []) text

-- what is known of the patch at a place: it begins within what the ones before it made, and ends
-- within the text
at_place : (patches : List (ℕ × List ℕ)) (size place k from : ℕ) (bytes : List ℕ) → Rise place patches → BeginWithin size place patches → slice_get patches k ≡ Some (from, bytes)
    → (from ≤ max size (last_end place (take k patches))) × (from + length bytes ≤ last_end place patches)
at_place [] size place k from bytes rise begin is = absurd (cc)
at_place (patch ∷ patches) size place zero from bytes rise begin is = grind (arith, common_steps, last_end-place, end_of)
at_place (patch ∷ patches) size place (suc k) from bytes rise begin is = at_place patches size (end_of patch) k from bytes rise.1 begin.1 is

rise_front : (patches : List (ℕ × List ℕ)) (place k : ℕ) → Rise place patches → Rise place (take k patches)
rise_front patches place zero rise = tt
rise_front [] place (suc k) rise = tt
rise_front (patch ∷ patches) place (suc k) rise = (rise.0, rise_front patches (end_of patch) k rise.1)

begin_front : (patches : List (ℕ × List ℕ)) (size place k : ℕ) → BeginWithin size place patches → BeginWithin size place (take k patches)
begin_front patches size place zero begin = tt
begin_front [] size place (suc k) begin = tt
begin_front (patch ∷ patches) size place (suc k) begin = (begin.0, begin_front patches size (end_of patch) k begin.1)

-- the next patch may be written
pub next_within : (patches : List (ℕ × List ℕ)) (final k from : ℕ) (bytes text now : List ℕ) → AreWellFormed patches final → Fit patches final (length text)
    → slice_get patches k ≡ Some (from, bytes) → now ≡ patched_each (take k patches) text → from ≤ length now
next_within patches final k from bytes text now formed fit is applied =
    let long : length (patched_each (take k patches) text) ≡ max (length text) (last_end 0 (take k patches)) =
    length-patched_each (length text) 0 (take k patches) text (omega arith) (rise_front patches 0 k formed.rise) (begin_front patches (length text) 0 k fit.begin) in
    omega (arith, ap length applied, long, (at_place patches (length text) 0 k from bytes formed.rise fit.begin is).0)

pub next_small : (patches : List (ℕ × List ℕ)) (final k from : ℕ) (bytes text : List ℕ) → AreWellFormed patches final → Fit patches final (length text)
    → slice_get patches k ≡ Some (from, bytes) → from + length bytes ≤ final
next_small patches final k from bytes text formed fit is =
    omega (arith, formed.within, (at_place patches (length text) 0 k from bytes formed.rise fit.begin is).1)

-- all of them written, and the file cut
pub all_applied : (items patches : List Patch) (k final : ℕ) (text now : List ℕ) → items ≡ patches → length items ≤ k → now ≡ patched_each (take k (pairs_of patches)) text
    → take final now ≡ patched (pairs_of patches) final text
all_applied items patches k final text now same done applied =
    let pair : Patch → ℕ × List ℕ = λ p. (p.from, p.bytes) in
    let long : length (map pair patches) ≡ length patches = length-map patches pair in
    let enough : length (pairs_of patches) ≤ k = omega (arith, done, long, ap length same) in
    ap (λ (l : List ℕ). take final l) (applied ∙ ap (λ (l : List (ℕ × List ℕ)). patched_each l text) (take_all k (pairs_of patches) enough))

-- all of them written: how long the text is then
pub length_applied : (items patches : List Patch) (k final : ℕ) (text now : List ℕ) → AreWellFormed (pairs_of patches) final → Fit (pairs_of patches) final (length text) → items ≡ patches → length items ≤ k
    → now ≡ patched_each (take k (pairs_of patches)) text → length now ≡ max (length text) (last_end 0 (pairs_of patches))
length_applied items patches k final text now formed fit same done applied =
    let pair : Patch → ℕ × List ℕ = λ p. (p.from, p.bytes) in
    let long : length (map pair patches) ≡ length patches = length-map patches pair in
    let enough : length (pairs_of patches) ≤ k = omega (arith, done, long, ap length same) in
    ap length (applied ∙ ap (λ (l : List (ℕ × List ℕ)). patched_each l text) (take_all k (pairs_of patches) enough))
    ∙ length-patched_each (length text) 0 (pairs_of patches) text (omega arith) formed.rise fit.begin
