-- The range of a write among the written ones, and a write of no bytes.
use Rattle.std.proofs.Common.{◌≡◌, ◌⊎◌, inl, inr, ⊎_elim, ℕ, ◌+◌, ◌<◌, ◌≤◌, ◌++◌, List, [], ◌∷◌, length, take, drop, max, ◌∙◌, ap, append-nil, arith}
use Rattle.std.proofs.lemmas.Bool.{cases_lt}
use Rattle.std.proofs.lemmas.List.{take-append-drop}
use Rattle.org_splice.specs.Overwritten.{overwritten}
use Rattle.org_disk.specs.Disk.{FileState, IsImage, IsOutside, with_range, write}

-- outside the range of the write, and outside those before it
pub outside_range : (from : ℕ) (bytes : List ℕ) (ranges : List (ℕ × ℕ)) (i : ℕ) → IsOutside (with_range from bytes ranges) i → ((i < from) ⊎ (from + length bytes ≤ i)) × IsOutside ranges i
outside_range from [] ranges i outside = (⊎_elim (λ before. inl before) (λ behind. inr (omega (arith, behind))) (cases_lt i from), outside)
outside_range from (byte ∷ bytes) ranges i outside = outside

pub range_outside : (from : ℕ) (bytes : List ℕ) (ranges : List (ℕ × ℕ)) (i : ℕ) → (i < from) ⊎ (from + length bytes ≤ i) → IsOutside ranges i → IsOutside (with_range from bytes ranges) i
range_outside from [] ranges i apart outside = outside
range_outside from (byte ∷ bytes) ranges i apart outside = (apart, outside)

-- a write of no bytes changes nothing
pub nothing_written : (from : ℕ) (file : FileState) → from ≤ length file.content → IsImage file file.content → write from [] file ≡ file
nothing_written from file le own j = record {
  content = same_content j;
  least = file.least;
  greatest = same_greatest j;
  written = file.written;
}
  where
    same_content : overwritten from [] file.content ≡ file.content
    same_content = ap (λ (l : List ℕ). l ++ drop (from + 0) file.content) (append-nil (take from file.content)) ∙ ap (λ (n : ℕ). take from file.content ++ drop n file.content) (omega arith)
        ∙ take-append-drop from file.content

    same_greatest : max file.greatest (from + 0) ≡ file.greatest
    same_greatest = omega (arith, le, own.no_longer)
