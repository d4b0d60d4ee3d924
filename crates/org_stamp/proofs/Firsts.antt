-- The place of the first byte that passes a test.
use Rattle.std.proofs.Common.{◌≡◌, ℕ, true, false, Bool, Option, Some, None, List, length, position, nat_lt, refl, arith}
use Rattle.std.proofs.lemmas.Grind.{common_steps}
use Rattle.std.specs.List.{position_or_len}
use Rattle.std.proofs.lemmas.List.Sums.{position_or_len_is}
use Rattle.memchr.specs.Find.{IsFirstByte}

fails : (b : Bool) → (b ≡ true → ⊥) → b ≡ false
fails true none = absurd (none refl)
fails false none = refl

pub first_byte : (test : ℕ → Bool) (text : List ℕ) (r : Option ℕ) → IsFirstByte test text r → r ≡ position test text
first_byte test text None none =
    let all : position_or_len test text ≡ length text = position_or_len_is test text (length text) 0 (omega arith) (λ k lt. fails _ (none k (omega arith) lt)) (λ lt. absurd (omega arith)) in
    let past : nat_lt (position_or_len test text) (length text) ≡ false = grind arith in
    rw past refl
first_byte test text (Some k) first = grind (arith, common_steps, position_or_len_is, fails)
