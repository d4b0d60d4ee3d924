-- Tests of the words of a list.
use Rattle.std.proofs.Common.{◌≡◌, ◌∙◌, ℕ, ◌||◌, List, [], ◌∷◌, refl, ap}
use Rattle.std.specs.Prelude.{map}
use Rattle.std.specs.List.{list_any}
use Rattle.std.specs.Str.{bytes_eq}
use Rattle.std.specs.Cmp.Lexicographic.{nat_list_eq_equiv}

-- the test of a word, whichever of the two comes first
pub list_any-flipped : {X : Type 0} (f : X → List ℕ) (w : List ℕ) (xs : List X) → list_any (λ x. bytes_eq (f x) w) xs ≡ list_any (bytes_eq w) (map f xs)
list_any-flipped f w [] = refl
list_any-flipped f w (x ∷ xs) = ap (λ b. b || list_any (λ x. bytes_eq (f x) w) xs) (nat_list_eq_equiv.symm (f x) w) ∙ ap (λ b. bytes_eq w (f x) || b) (list_any-flipped f w xs)
