-- What a template begins with.
use Rattle.std.proofs.Common.{◌≡◌, ℕ, ◌-◌, ◌<◌, ◌≤◌, List, [], ◌∷◌, length, get_or, take, drop, Some, None, arith}
use Rattle.std.proofs.lemmas.Grind.{common_steps}
use Rattle.org_capture.specs.Template.{escape_of, pieces_of}
use Rattle.org_capture.specs.declared.piece.Piece.{Piece}
use Rattle.org_capture.specs.declared.piece.Piece.TheVariants.{Byte}

pub escape_first : (template : List ℕ) (piece : Piece) → 2 ≤ length template → get_or template 0 0 ≡ 37 → escape_of (get_or template 1 0) ≡ Some piece
    → pieces_of template ≡ piece ∷ pieces_of (take (length template - 2) (drop 2 template))
escape_first [] piece two sign is = grind arith
escape_first (b ∷ []) piece two sign is = grind arith
escape_first (b ∷ c ∷ more) piece two sign is = grind (arith, common_steps)

pub sign_first : (template : List ℕ) → 2 ≤ length template → get_or template 0 0 ≡ 37 → escape_of (get_or template 1 0) ≡ None
    → pieces_of template ≡ Byte 37 ∷ pieces_of (drop 1 template)
sign_first [] two sign is = grind arith
sign_first (b ∷ []) two sign is = grind arith
sign_first (b ∷ c ∷ more) two sign is = grind (arith, common_steps)

pub byte_alone : (template : List ℕ) → 1 ≤ length template → length template < 2
    → pieces_of template ≡ Byte (get_or template 0 0) ∷ pieces_of (take (length template - 1) (drop 1 template))
byte_alone [] some few = grind arith
byte_alone (b ∷ []) some few = grind (arith, common_steps)
byte_alone (b ∷ c ∷ more) some few = grind arith

pub byte_first : (template : List ℕ) → 2 ≤ length template → (get_or template 0 0 ≡ 37 → ⊥)
    → pieces_of template ≡ Byte (get_or template 0 0) ∷ pieces_of (take (length template - 1) (drop 1 template))
byte_first [] two other = grind arith
byte_first (b ∷ []) two other = grind arith
byte_first (b ∷ c ∷ more) two other = grind (arith, common_steps)
