-- Where the first of some patches begins, and where the last one ends.
use Rattle.std.proofs.Common.{◌≡◌, ◌+◌, ◌-◌, ◌<◌, ◌≤◌, ℕ, zero, suc, List, [], ◌∷◌, length, get_or, ap, arith}
use Rattle.std.proofs.lemmas.List.{length-map}
use Rattle.org_splice.specs.Patches.{end_of, last_end, Rise, AreWellFormed}
use Rattle.org_splice.specs.Texts.{pairs_of}
use Rattle.org_splice.specs.declared.patch.Patch.{Patch}
use Rattle.org_splice.proofs.Patching.{last_end-place}
use Rattle.org_journal.specs.Left.{first_from}

-- there is one
pub some_patch : (patches : List Patch) (final : ℕ) → AreWellFormed (pairs_of patches) final → 0 < length patches
some_patch patches final formed =
    let pair : Patch → ℕ × List ℕ = λ p. (p.from, p.bytes) in
    omega (arith, formed.some, length-map patches pair)

pub first_is : (patches : List Patch) (patch : Patch) → 0 < length patches → patch ≡ get_or patches 0 patch → patch.from ≡ first_from (pairs_of patches)
first_is [] patch some is = absurd (omega (arith, some))
first_is (first ∷ patches) patch some is = ap (λ (p : Patch). p.from) is

last_at : (place : ℕ) (patches : List Patch) (patch : Patch) (n : ℕ) → length patches ≡ suc n → patch ≡ get_or patches n patch → patch.from + length patch.bytes ≡ last_end place (pairs_of patches)
last_at place [] patch n long is = absurd (omega (arith, long))
last_at place (first ∷ []) patch zero long is = ap (λ (p : Patch). p.from + length p.bytes) is
last_at place (first ∷ []) patch (suc n) long is = absurd (omega (arith, long))
last_at place (first ∷ second ∷ patches) patch zero long is = absurd (omega (arith, long))
last_at place (first ∷ second ∷ patches) patch (suc n) long is = last_at (first.from + length first.bytes) (second ∷ patches) patch n (omega (arith, long)) is

pub last_is : (patches : List Patch) (patch : Patch) → 0 < length patches → patch ≡ get_or patches (length patches - 1) patch → patch.from + length patch.bytes ≡ last_end 0 (pairs_of patches)
last_is patches patch some is = last_at 0 patches patch (length patches - 1) (omega (arith, some)) is

first_before : (place : ℕ) (patches : List (ℕ × List ℕ)) → Rise place patches → first_from patches ≤ last_end place patches
first_before place [] rise = omega arith
first_before place (patch ∷ patches) rise = omega (arith, last_end-place (end_of patch) patches rise.1)

-- it begins within the text
pub first_within : (patches : List Patch) (final : ℕ) → AreWellFormed (pairs_of patches) final → first_from (pairs_of patches) ≤ final
first_within patches final formed = omega (arith, formed.within, first_before 0 (pairs_of patches) formed.rise)
