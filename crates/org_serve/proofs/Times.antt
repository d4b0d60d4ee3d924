-- The bytes of a time.
use Rattle.std.proofs.Common.{◌≡◌, ℕ, ◌+◌, ◌/◌, ◌%◌, ◌<◌, ◌^◌, [], ◌∷◌, ◌++◌, codes, append_assoc, arith}
use Rattle.std.proofs.lemmas.Grind.{common_steps}
use Rattle.std.specs.Fmt.{decimal}
use Rattle.std.proofs.lemmas.Fmt.{decimal_nonempty}
use Rattle.org_stamp.specs.Stamp.{duration_text, two_digits}

-- hours, which are one digit at least, and minutes
pub hours_and_minutes : (minutes : ℕ) → minutes < 2 ^ 64 → duration_text minutes 1 ≡ decimal (minutes / 60) ++ (58 ∷ two_digits (minutes % 60))
hours_and_minutes minutes small = grind (arith, common_steps, decimal_nonempty)

-- the whole reply, as it is written
pub time_reply : (minutes first second : ℕ) → minutes < 2 ^ 64 → first ≡ 48 + minutes % 60 / 10 → second ≡ 48 + minutes % 60 % 10
    → codes "time " ++ decimal (minutes / 60) ++ (58 ∷ first ∷ second ∷ 10 ∷ []) ≡ codes "time " ++ duration_text minutes 1 ++ codes "\n"
time_reply minutes first second small is also = grind (arith, common_steps, append_assoc, hours_and_minutes)
