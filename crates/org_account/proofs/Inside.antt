-- What stands before the first closing bracket.
use Rattle.std.proofs.Common.{◌≡◌, ℕ, true, false, Bool, Option, Some, None, List, length, refl, sym, ap, arith}
use Rattle.std.specs.Prelude.{not, unwrap_or}
use Rattle.std.specs.List.{prefix_len}
use Rattle.std.proofs.lemmas.List.Sums.{prefix_len_is}
use Rattle.memchr.specs.Find.{IsFirstByte, is_byte}
use Rattle.org_account.specs.Text.{is_inside}

no_more : (b : Bool) → (b ≡ true → ⊥) → not b ≡ true
no_more true none = absurd (none refl)
no_more false none = refl

pub inside_run : (line : List ℕ) (r : Option ℕ) → IsFirstByte (is_byte 93) line r → unwrap_or r (length line) ≡ prefix_len is_inside line
inside_run line None none = sym (prefix_len_is is_inside line (length line) 0 (omega arith) (λ k lt. no_more _ (none k (omega arith) lt)) (λ lt. absurd (omega arith)))
inside_run line (Some k) first = sym (prefix_len_is is_inside line k 0 (omega (arith, first.0.high)) (λ j lt. no_more _ (first.0.before j (omega arith) lt)) (λ lt. ap not first.1))
