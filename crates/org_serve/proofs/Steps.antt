-- How a step of a path is read: its mark, its number, its title.
use Rattle.std.proofs.Common.{◌≡◌, ℕ, suc, ◌+◌, ◌-◌, ◌*◌, ◌^◌, ◌<◌, ◌≤◌, ◌==◌, ◌&&◌, true, false, List, [], ◌∷◌, ◌++◌, length, get_or, take, drop, Option, None, Some, refl, sym, ap, ◌∙◌, append-nil, append_assoc, length-append, arith, inl, inr}
use Rattle.std.proofs.lemmas.Grind.{common_steps}
use Rattle.std.specs.Prelude.{decimal, fold, nat_le, slice_index}
use Rattle.std.specs.Char.{is_ascii_digit}
use Rattle.std.specs.List.{list_all}
use Rattle.std.specs.Str.{all_ascii_digits}
use Rattle.std.proofs.lemmas.Bool.{cases_Bool}
use Rattle.std.proofs.lemmas.Bool.Decides.{eqb_tells, nat_tests}
use Rattle.std.proofs.lemmas.Fmt.{decimal_nonempty, digits_decimal, digits_value-decimal, first_decimal, length-decimal-le}
use Rattle.std.proofs.lemmas.Str.Parse.{FoldsDigits, IsNumeralModel, numerals_by_fold, tells_all_ascii_digits}
use Rattle.std.proofs.lemmas.List.{take_at, drop_at}
use Rattle.std.proofs.lemmas.List.Elements.{All-nil, All-append}
use Rattle.org_outline.specs.declared.steps.Step.{Step}
use Rattle.org_serve.specs.Grammar.{IsWritten, escaped, mark_from, number_field, number_of, step_field, step_of}
use Rattle.org_serve.proofs.Escapes.{HasNoSlash, no_slash-cons, no_slash-escaped, unescaped-escaped}

-- ---- the mark

-- a title that is escaped has none, so that it is looked for after it
mark-behind : (at : ℕ) (text tail : List ℕ) → mark_from false at (escaped text ++ tail) ≡ mark_from false (at + length (escaped text)) tail
mark-behind at [] tail = let here : at ≡ at + 0 = omega arith in ap (λ k. mark_from false k tail) here
mark-behind at (b ∷ bytes) tail = grind (arith, common_steps, mark-behind (suc (suc at)) bytes tail, mark-behind (suc at) bytes tail)

-- ---- the number

pub all_digits_are : (ds : List ℕ) → all_ascii_digits ds ≡ list_all is_ascii_digit ds
all_digits_are [] = refl
all_digits_are (c ∷ cs) = ap (λ b. is_ascii_digit c && b) (all_digits_are cs)

folds_digits : FoldsDigits (λ n ds. fold (λ n b. 10 * n + (b - 48)) n ds)
folds_digits = record {
  empty = λ n. refl;
  more = λ n c cs k. let same : 10 * n + (c - 48) ≡ n * 10 + (c - 48) = omega arith in ap (λ m. fold (λ n b. 10 * n + (b - 48)) m cs) same;
}

pub numerals : IsNumeralModel (λ ds. all_ascii_digits ds ≡ true) (λ ds. fold (λ n b. 10 * n + (b - 48)) 0 ds)
numerals = numerals_by_fold (λ ds. all_ascii_digits ds ≡ true) tells_all_ascii_digits (λ n ds. fold (λ n b. 10 * n + (b - 48)) n ds) folds_digits

pub number-written : (n : ℕ) → 1 ≤ n → n < 10 ^ 9 → number_of (decimal n) ≡ Some n
number-written n low high =
    let small : n < 2 ^ 64 = omega (arith, high) in
    let first : 48 < get_or (decimal n) 0 0 = first_decimal n (omega (arith, low)) small in
    let no_zero : (slice_index (decimal n) 0 == 48) ≡ false = grind (arith, nat_tests, first) in
    let some : 0 < length (decimal n) = decimal_nonempty n small in
    let few : length (decimal n) ≤ 9 = length-decimal-le 9 n (omega arith) high small in
    let one : nat_le 1 (length (decimal n)) ≡ true = grind (arith, nat_tests, some) in
    let nine : nat_le (length (decimal n)) 9 ≡ true = grind (arith, nat_tests, few) in
    let digits : list_all is_ascii_digit (decimal n) ≡ true = sym (all_digits_are (decimal n)) ∙ digits_decimal numerals n small in
    rw (no_zero, one, nine, digits) (ap Some (digits_value-decimal numerals n small))

-- ---- the step

title_written : (title : List ℕ) (number : Option ℕ) → IsWritten number → step_of (escaped title ++ number_field number) ≡ Some (record { title = title; number = number })
unfolding step_of
title_written title None written = grind (arith, common_steps, mark-behind, append-nil, unescaped-escaped)
title_written title (Some n) written =
    let field = escaped title in
    let ds = decimal n in
    let mark : mark_from false 0 (field ++ 92 ∷ 35 ∷ ds) ≡ Some (suc (length field)) =
    let front : 0 + length field ≡ length field = omega arith in
    mark-behind 0 title (92 ∷ 35 ∷ ds) ∙ ap (λ k. mark_from false k (92 ∷ 35 ∷ ds)) front in
    let before : take (suc (length field) - 1) (field ++ 92 ∷ 35 ∷ ds) ≡ field = take_at field (92 ∷ 35 ∷ ds) (suc (length field) - 1) (omega arith) in
    let marked = field ++ 92 ∷ 35 ∷ [] in
    let behind : drop (suc (length field) + 1) (field ++ 92 ∷ 35 ∷ ds) ≡ ds =
    ap (drop (suc (length field) + 1)) (sym (append_assoc field (92 ∷ 35 ∷ []) ds)) ∙ drop_at marked ds (suc (length field) + 1) (omega (arith, length-append field (92 ∷ 35 ∷ []))) in
    rw (mark, before, behind, unescaped-escaped title, number-written n written.0 written.1) refl

pub step-written : (step : Step) → IsWritten step.number → step_of (step_field step) ≡ Some step
step-written step written = title_written step.title step.number written

digits_no_slash : (ds : List ℕ) → all_ascii_digits ds ≡ true → HasNoSlash ds
digits_no_slash [] all = All-nil (λ b. (b == 47) ≡ false)
digits_no_slash (c ∷ cs) all =
    elim (eqb_tells c 47) [
      | inl slash ↦ absurd (let no_digit = rw slash.1 at all in cc)
      | inr p ↦ elim (cases_Bool (is_ascii_digit c)) [
        | inl e ↦ no_slash-cons c cs p.0 (digits_no_slash cs (rw e at all))
        | inr e ↦ absurd (let no_digit = rw e at all in cc)
      ]
    ]

no_slash_behind : (title : List ℕ) (number : Option ℕ) → IsWritten number → HasNoSlash (escaped title ++ number_field number)
no_slash_behind title None written = All-append (λ b. (b == 47) ≡ false) (escaped title) [] (no_slash-escaped title) (All-nil (λ b. (b == 47) ≡ false))
no_slash_behind title (Some n) written =
    let small : n < 2 ^ 64 = omega (arith, written.1) in
    let number = no_slash-cons 92 (35 ∷ decimal n) refl (no_slash-cons 35 (decimal n) refl (digits_no_slash (decimal n) (digits_decimal numerals n small))) in
    All-append (λ b. (b == 47) ≡ false) (escaped title) (92 ∷ 35 ∷ decimal n) (no_slash-escaped title) number

pub no_slash-step : (step : Step) → IsWritten step.number → HasNoSlash (step_field step)
no_slash-step step written = no_slash_behind step.title step.number written
