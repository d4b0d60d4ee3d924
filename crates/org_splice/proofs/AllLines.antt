-- What holds of each element of lists holds of each of both joined, and of a part.
use Rattle.std.proofs.Common.{ℕ, zero, suc, ◌<◌, List, [], ◌∷◌, ◌++◌, length, take, drop, get_or, arith}
use Rattle.std.specs.Prelude.{replicate}
use Rattle.std.specs.List.{AllByRecursion}

pub AllByRecursion-append : {X : Type 0} (P : X → Type 0) (xs ys : List X) → AllByRecursion P xs → AllByRecursion P ys → AllByRecursion P (xs ++ ys)
AllByRecursion-append P [] ys p q = q
AllByRecursion-append P (x ∷ xs) ys p q = (p.0, AllByRecursion-append P xs ys p.1 q)

pub AllByRecursion-take : {X : Type 0} (P : X → Type 0) (n : ℕ) (xs : List X) → AllByRecursion P xs → AllByRecursion P (take n xs)
AllByRecursion-take P zero xs p = tt
AllByRecursion-take P (suc n) [] p = tt
AllByRecursion-take P (suc n) (x ∷ xs) p = (p.0, AllByRecursion-take P n xs p.1)

pub AllByRecursion-drop : {X : Type 0} (P : X → Type 0) (n : ℕ) (xs : List X) → AllByRecursion P xs → AllByRecursion P (drop n xs)
AllByRecursion-drop P zero xs p = p
AllByRecursion-drop P (suc n) [] p = p
AllByRecursion-drop P (suc n) (x ∷ xs) p = AllByRecursion-drop P n xs p.1

pub AllByRecursion-replicate : {X : Type 0} (P : X → Type 0) (n : ℕ) (x : X) → P x → AllByRecursion P (replicate n x)
AllByRecursion-replicate P zero x p = tt
AllByRecursion-replicate P (suc n) x p = (p, AllByRecursion-replicate P n x p)

pub AllByRecursion-at : {X : Type 0} (P : X → Type 0) (xs : List X) (i : ℕ) (d : X) → AllByRecursion P xs → i < length xs → P (get_or xs i d)
AllByRecursion-at P [] i d h lt = absurd (omega arith)
AllByRecursion-at P (x ∷ xs) zero d h lt = h.0
AllByRecursion-at P (x ∷ xs) (suc i) d h lt = AllByRecursion-at P xs i d h.1 (omega arith)
