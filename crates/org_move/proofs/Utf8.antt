-- Which bytes are UTF-8.
use Rattle.std.proofs.Common.{◌≡◌, ℕ, List, Bool, true, false, refl}
use Rattle.std.specs.Str.{IsUtf8, is_utf8}
use Rattle.std.proofs.lemmas.Str.{IsUtf8-from_is_utf8, is_utf8-from_IsUtf8}

reported : (bs : List ℕ) (b : Bool) → is_utf8 bs ≡ b → (IsUtf8 bs → ⊥) → b ≡ false
reported bs true e isnt = absurd (isnt (IsUtf8-from_is_utf8 bs e))
reported bs false e isnt = refl

pub is_no_utf8 : (bs : List ℕ) → (IsUtf8 bs → ⊥) → is_utf8 bs ≡ false
is_no_utf8 bs isnt = reported bs (is_utf8 bs) refl isnt

pub is_some_utf8 : (bs : List ℕ) → IsUtf8 bs → is_utf8 bs ≡ true
is_some_utf8 = is_utf8-from_IsUtf8
