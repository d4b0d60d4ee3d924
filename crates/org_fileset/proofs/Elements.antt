-- The elements of a list, from its front.
use Rattle.std.proofs.Common.{◌≡◌, ◌⊎◌, List, [], ◌∷◌, arith}
use Rattle.std.proofs.lemmas.Grind.{common_steps}
use Rattle.std.specs.List.{Contains}
use Rattle.std.proofs.lemmas.List.Elements.{Contains-append_left, Contains-append_right, Contains-push}

pub no_member : {X : Type 0} (x : X) → Contains [] x → ⊥
no_member x there = omega (arith, there.1)

pub cons_cases : {X : Type 0} (x : X) (xs : List X) (y : X) → Contains (x ∷ xs) y → (x ≡ y) ⊎ Contains xs y
cons_cases x xs y there = grind (arith, common_steps)

pub cons_here : {X : Type 0} (x : X) (xs : List X) → Contains (x ∷ xs) x
cons_here x xs = Contains-append_left (x ∷ []) xs x (Contains-push [] x)

pub cons_later : {X : Type 0} (x : X) (xs : List X) (y : X) → Contains xs y → Contains (x ∷ xs) y
cons_later x xs y there = Contains-append_right (x ∷ []) xs y there
