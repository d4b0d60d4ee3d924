-- A value cut at its first `::`, and a name in the place of each `%s`.
use Rattle.std.proofs.Common.{◌≡◌, ℕ, ◌-◌, true, false, Bool, List, [], ◌∷◌, ◌++◌, length, take, drop, Option, Some, None, refl, sym, ap, append_assoc, arith}
use Rattle.std.proofs.lemmas.Grind.{common_steps}
use Rattle.std.specs.Prelude.{nat_eq}
use Rattle.std.specs.Option.{option_map}
use Rattle.std.specs.Cmp.Lexicographic.{pointwise}
use Rattle.org_move.specs.Location.{Halves, halves_of, with_byte, with_name}

-- the text begins with these two bytes
begins : List ℕ → ℕ → ℕ → Bool
begins left x y = pointwise nat_eq (take 2 left) (x ∷ y ∷ [])

-- ---- halves

-- bytes put at the front of the first half
abbrev pub prepend : List ℕ → Halves → Halves
prepend front halves = record halves { file = front ++ halves.file }

-- the value after `front` is `left`, and the first `::` isn't before it
pub record Cut (value left : List ℕ) : Type 0 where
  pub front : List ℕ
  pub whole : value ≡ front ++ left
  pub same : halves_of value ≡ option_map (prepend front) (halves_of left)

halves_later : (b : ℕ) (rest : List ℕ) → begins (b ∷ rest) 58 58 ≡ false → halves_of (b ∷ rest) ≡ option_map (with_byte b) (halves_of rest)
unfolding begins
halves_later b [] e = refl
halves_later b (c ∷ bs) e = grind (arith, common_steps)

one_more : (front : List ℕ) (b : ℕ) (o : Option Halves) → option_map (prepend front) (option_map (with_byte b) o) ≡ option_map (prepend (front ++ b ∷ [])) o
one_more front b None = refl
one_more front b (Some h) =
    ap (λ file. Some (let halves : Halves = record { file = file; heading = h.heading } in halves)) (sym (append_assoc front (b ∷ []) h.file))

pub cut_next : (value left rest : List ℕ) (b : ℕ) → Cut value left → left ≡ b ∷ rest → pointwise nat_eq (take 2 left) (58 ∷ 58 ∷ []) ≡ false → Cut value rest
unfolding begins
cut_next value left rest b c is none = grind (arith, common_steps, append_assoc, halves_later, begins, one_more)

pub cut_here : (value left file heading : List ℕ) → Cut value left → pointwise nat_eq (take 2 left) (58 ∷ 58 ∷ []) ≡ true → file ≡ take (length value - length left) value → heading ≡ drop 2 left
    → Some (record { file = file; heading = heading }) ≡ halves_of value
unfolding begins
cut_here value left file heading c found file_is heading_is = grind (arith, common_steps)

-- ---- names

-- what was made, with the text that is left, is all of it
pub record Names (name text made left : List ℕ) : Type 0 where
  pub same : with_name name text ≡ made ++ with_name name left
