-- Which bytes are UTF-8.
use Rattle.std.proofs.Common.{◌≡◌, ℕ, List, true, false, ⊎_elim}
use Rattle.std.specs.Str.{IsUtf8, is_utf8}
use Rattle.std.proofs.lemmas.Bool.{cases_Bool}
use Rattle.std.proofs.lemmas.Str.{IsUtf8-from_is_utf8, is_utf8-from_IsUtf8}

pub is_no_utf8 : (bs : List ℕ) → (IsUtf8 bs → ⊥) → is_utf8 bs ≡ false
is_no_utf8 bs isnt = ⊎_elim (λ is. absurd (isnt (IsUtf8-from_is_utf8 bs is))) (λ no. no) (cases_Bool (is_utf8 bs))

pub is_some_utf8 : (bs : List ℕ) → IsUtf8 bs → is_utf8 bs ≡ true
is_some_utf8 = is_utf8-from_IsUtf8
