-- The parts of a moment.
use Rattle.std.proofs.Common.{◌≡◌, ℕ, ◌<◌, ◌≤◌, List, [], ◌∷◌, length, get_or, Option, None, Some, refl, arith}
use Rattle.std.specs.Option.{option_map, option_and_then, option_zip}
use Rattle.org_serve.specs.Grammar.{pair_of, year_of, date_of}

zipped : (y m d : Option ℕ) → option_map {U = ℕ × ℕ × ℕ} (λ (date : ℕ × (ℕ × ℕ)). (date.0, date.1.0, date.1.1)) (option_zip y (option_zip m d))
    ≡ option_and_then {U = ℕ × ℕ × ℕ} (λ y. option_and_then {U = ℕ × ℕ × ℕ} (λ m. option_map {U = ℕ × ℕ × ℕ} (λ n. (y, m, n)) d) m) y
zipped None m d = refl
zipped (Some y) None d = refl
zipped (Some y) (Some m) None = refl
zipped (Some y) (Some m) (Some d) = refl

-- a date, of its digits
pub date_is : (field : List ℕ) → 10 ≤ length field → length field < 11 → get_or field 4 0 ≡ 45 → get_or field 7 0 ≡ 45
    → option_map {U = ℕ × ℕ × ℕ} (λ (date : ℕ × (ℕ × ℕ)). (date.0, date.1.0, date.1.1))
    (option_zip (year_of (get_or field 0 0) (get_or field 1 0) (get_or field 2 0) (get_or field 3 0))
    (option_zip (pair_of (get_or field 5 0) (get_or field 6 0)) (pair_of (get_or field 8 0) (get_or field 9 0)))) ≡ date_of field
date_is (a ∷ b ∷ c ∷ d ∷ e ∷ f ∷ g ∷ h ∷ i ∷ j ∷ []) least below fourth seventh = rw (fourth, seventh) (zipped (year_of a b c d) (pair_of f g) (pair_of i j))
date_is (a ∷ b ∷ c ∷ d ∷ e ∷ f ∷ g ∷ h ∷ i ∷ j ∷ k ∷ more) least below fourth seventh = absurd (omega (arith, below))
date_is (a ∷ b ∷ c ∷ d ∷ e ∷ f ∷ g ∷ h ∷ i ∷ []) least below fourth seventh = absurd (omega (arith, least))
date_is (a ∷ b ∷ c ∷ d ∷ e ∷ f ∷ g ∷ h ∷ []) least below fourth seventh = absurd (omega (arith, least))
date_is (a ∷ b ∷ c ∷ d ∷ e ∷ f ∷ g ∷ []) least below fourth seventh = absurd (omega (arith, least))
date_is (a ∷ b ∷ c ∷ d ∷ e ∷ f ∷ []) least below fourth seventh = absurd (omega (arith, least))
date_is (a ∷ b ∷ c ∷ d ∷ e ∷ []) least below fourth seventh = absurd (omega (arith, least))
date_is (a ∷ b ∷ c ∷ d ∷ []) least below fourth seventh = absurd (omega (arith, least))
date_is (a ∷ b ∷ c ∷ []) least below fourth seventh = absurd (omega (arith, least))
date_is (a ∷ b ∷ []) least below fourth seventh = absurd (omega (arith, least))
date_is (a ∷ []) least below fourth seventh = absurd (omega (arith, least))
date_is [] least below fourth seventh = absurd (omega (arith, least))
