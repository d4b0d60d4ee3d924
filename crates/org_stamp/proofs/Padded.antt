-- What the padded parts of a duration are.
use Rattle.std.proofs.Common.{◌≡◌, ℕ, ◌-◌, ◌/◌, ◌%◌, ◌^◌, ◌<◌, ◌≤◌, false, List, [], ◌∷◌, ◌++◌, length, replicate, append-nil, ap, ◌∙◌, arith}
use Rattle.std.proofs.lemmas.Grind.{common_steps}
use Rattle.std.specs.Fmt.{decimal, styled_decimal, padded_integral, format_spec, char_count}
use Rattle.std.proofs.lemmas.Bool.{cases_lt}
use Rattle.std.proofs.lemmas.Bool.Decides.{nat_tests}
use Rattle.std.proofs.lemmas.Fmt.{decimal_nonempty, decimal_digit, decimal_step}
use Rattle.org_stamp.specs.Stamp.{two_digits, duration_text}

-- digits that fill the places stand alone
no_place : (width : ℕ) (ds : List ℕ) → width - length ds ≡ 0 → padded_integral (format_spec 32 0 0 width (2 ^ 64 - 1)) false [] ds ≡ ds
unfolding padded_integral char_count
no_place width ds none = rw none (append-nil ds)

-- and before digits that leave one place stands a blank
one_place : (width : ℕ) (ds : List ℕ) → width - length ds ≡ 1 → padded_integral (format_spec 32 0 0 width (2 ^ 64 - 1)) false [] ds ≡ 32 ∷ ds
unfolding padded_integral char_count lib.Utf8.encode
one_place width ds one = rw one (ap (λ l. 32 ∷ l) (append-nil ds))

padded_hours : (width n : ℕ) → 1 ≤ width → width ≤ 2 → n < 2 ^ 64 → styled_decimal (format_spec 32 0 0 width (2 ^ 64 - 1)) n ≡ replicate (width - length (decimal n)) 32 ++ decimal n
padded_hours width n low high small = grind (arith, common_steps, nat_tests, decimal_nonempty, cases_lt, one_place, no_place)

padded_minutes : (n : ℕ) → n < 60 → padded_integral (format_spec 32 0 4 2 (2 ^ 64 - 1)) false [] (decimal n) ≡ two_digits n
unfolding padded_integral char_count
padded_minutes n small = grind (arith, common_steps, cases_lt, decimal_digit, decimal_step)

-- the hours and the minutes under their options are the duration's text
pub duration_is : (minutes width : ℕ) (hours rest : _) → hours ≡ format_spec 32 0 0 width (2 ^ 64 - 1) → rest ≡ format_spec 32 0 4 2 (2 ^ 64 - 1) → 1 ≤ width → width ≤ 2 → minutes < 2 ^ 64 →
    styled_decimal hours (minutes / 60) ++ (58 ∷ styled_decimal rest (minutes % 60)) ≡ duration_text minutes width
duration_is minutes width hours rest first second low high small =
    ap (λ s. styled_decimal s (minutes / 60) ++ (58 ∷ styled_decimal rest (minutes % 60))) first
    ∙ ap (λ s. styled_decimal (format_spec 32 0 0 width (2 ^ 64 - 1)) (minutes / 60) ++ (58 ∷ styled_decimal s (minutes % 60))) second
    ∙ ap (λ l. l ++ (58 ∷ styled_decimal (format_spec 32 0 4 2 (2 ^ 64 - 1)) (minutes % 60))) (padded_hours width (minutes / 60) low high (omega arith))
    ∙ ap (λ l. (replicate (width - length (decimal (minutes / 60))) 32 ++ decimal (minutes / 60)) ++ (58 ∷ l)) (padded_minutes (minutes % 60) (omega arith))
