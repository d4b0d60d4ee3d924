use Rattle.std.proofs.Common.{◌≡◌, ℕ, ◌+◌, ◌-◌, true, false, not, Bool, eqb, List, length, get_or, Some, None, refl, ap, ◌∙◌, arith}
use Rattle.std.specs.List.{suffix_len}
use Rattle.std.proofs.lemmas.List.Sums.{suffix_len_is}
use Rattle.memchr.specs.Find.{IsLastByte, is_byte}
use Rattle.org_capture.proofs.template.last_line_len.Goals as goal

other : (b : Bool) → (b ≡ true → ⊥) → not b ≡ true
other true never = absurd (never refl)
other false never = refl

behind_last : (text : List ℕ) (last : ℕ) → IsLastByte (is_byte 10) text (Some last) → suffix_len (λ b. not (eqb b 10)) text ≡ length text - (last + 1)
behind_last text last h =
    let lt = h.0.high in
    let at : last + 1 - 1 ≡ last = omega arith in
    suffix_len_is (λ b. not (eqb b 10)) text (last + 1) 0 (omega (arith, lt)) (λ k from to. other (eqb (get_or text k 0) 10) (h.0.after k from to))
    (λ some. ap (λ n. not (eqb (get_or text n 0) 10)) at ∙ ap not h.1)

all_behind : (text : List ℕ) → IsLastByte (is_byte 10) text None → suffix_len (λ b. not (eqb b 10)) text ≡ length text
all_behind text h =
    let none : length text - 0 ≡ length text = omega arith in
    suffix_len_is (λ b. not (eqb b 10)) text 0 0 (omega arith) (λ k from to. other (eqb (get_or text k 0) 10) (h k from to)) (λ some. absurd (omega (arith, some))) ∙ none

pub returns-in-Some-clause-count : goal.returns-in-Some-clause-count
returns-in-Some-clause-count c = omega (arith, behind_last c.args.text.now c.in-Some.last c.in-Some.ensures, c.in-Some.ensures.0.high)

pub returns-in-None-clause-count : goal.returns-in-None-clause-count
returns-in-None-clause-count c = omega (arith, all_behind c.args.text.now c.in-None.ensures)
