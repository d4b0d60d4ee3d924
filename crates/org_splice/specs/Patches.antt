-- Patches: bytes with the places where they stand in a text, applied to it in order. Here a patch
-- is a pair, the byte position from which on its bytes stand, and the bytes.
use Rattle.std.specs.Prelude.{◌≡◌, ◌⊎◌, ℕ, ◌+◌, ◌<◌, ◌≤◌, min, max, List, [], ◌∷◌, length, take, slice_index}
use Rattle.std.specs.List.{AllByRecursion}
use Rattle.org_splice.specs.Overwritten.{overwritten}

-- the patches applied to a text, one after the other
abbrev pub patched_each : List (ℕ × List ℕ) → List ℕ → List ℕ
patched_each [] text = text
patched_each (patch ∷ patches) text = patched_each patches (overwritten patch.0 patch.1 text)

-- what the patches make of a text: they are applied to it, and `final` bytes are kept
abbrev pub patched : List (ℕ × List ℕ) → ℕ → List ℕ → List ℕ
patched patches final text = take final (patched_each patches text)

-- the place after a patch
abbrev pub end_of : ℕ × List ℕ → ℕ
end_of patch = patch.0 + length patch.1

-- the place after the last of the patches, and this one where there are none
abbrev pub last_end : ℕ → List (ℕ × List ℕ) → ℕ
last_end place [] = place
last_end place (patch ∷ patches) = last_end (end_of patch) patches

-- each patch begins at this place or later, and at the end of the one before or later: they rise
-- and lie apart
abbrev pub Rise : ℕ → List (ℕ × List ℕ) → Type 0
Rise place [] = Unit {0}
Rise place (patch ∷ patches) = (place ≤ patch.0) × Rise (end_of patch) patches

-- What is written down of a change: a list of patches, and the text's final length.
pub record AreWellFormed (patches : List (ℕ × List ℕ)) (final : ℕ) : Type 0 where
  pub some : 1 ≤ length patches
  pub few : length patches ≤ 1_000
  pub rise : Rise 0 patches
  -- only a patch that stands alone may be empty
  pub full : (length patches ≡ 1) ⊎ AllByRecursion (λ patch. 1 ≤ length patch.1) patches
  pub within : last_end 0 patches ≤ final

-- no patch begins after both the end of a text of this size and the end of the patch before
abbrev pub BeginWithin : ℕ → ℕ → List (ℕ × List ℕ) → Type 0
BeginWithin size place [] = Unit {0}
BeginWithin size place (patch ∷ patches) =
    (patch.0 ≤ max size place) × BeginWithin size (end_of patch) patches

-- The patches and the final length fit a text of this size: nowhere is a byte of the result left
-- open.
pub record Fit (patches : List (ℕ × List ℕ)) (final size : ℕ) : Type 0 where
  pub begin : BeginWithin size 0 patches
  pub ends : final ≤ max size (last_end 0 patches)

-- the patches fit this text, and make that one of it
pub record PatchedTo (patches : List (ℕ × List ℕ)) (final : ℕ) (text to : List ℕ) : Type 0 where
  pub fit : Fit patches final (length text)
  pub makes : patched patches final text ≡ to

-- a position in none of the patches
abbrev pub IsOutside : List (ℕ × List ℕ) → ℕ → Type 0
IsOutside [] i = Unit {0}
IsOutside (patch ∷ patches) i = ((i < patch.0) ⊎ (end_of patch ≤ i)) × IsOutside patches i

-- A text on which a part of the work may have been done: its length lies between the text's and the
-- final one, and below the final length it has the text's bytes outside the patches.
pub record IsPartlyPatched (patches : List (ℕ × List ℕ)) (final : ℕ) (text part : List ℕ)
    : Type 0 where
  pub no_shorter : min (length text) final ≤ length part
  pub no_longer : length part ≤ max (length text) final
  pub same : (i : ℕ) → i < final → IsOutside patches i → slice_index part i ≡ slice_index text i
