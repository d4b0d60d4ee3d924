-- Texts without a newline: what is written of a moment.
use Rattle.std.proofs.Common.{◌≡◌, eqb, ℕ, ◌/◌, Bool, true, false, not, List, [], ◌∷◌, ◌++◌, refl, sym, ◌∙◌, arith, inl, inr}
use Rattle.std.proofs.lemmas.Grind.{common_steps}
use Rattle.std.specs.Prelude.{◌≢◌, if◌then◌else◌}
use Rattle.std.specs.List.{list_all}
use Rattle.std.proofs.lemmas.Bool.{cases_Bool, false≢true}
use Rattle.org_splice.specs.Lines.{IsLine}
use Rattle.org_stamp.specs.Calendar.{CivilDay}
use Rattle.org_stamp.specs.Stamp.{clock_text, date_text, day_name, two_digits}
use Rattle.org_splice.proofs.AllLines.{AllByRecursion-append}

-- a line without a newline, by name
pub record Flat (l : List ℕ) : Type 0 where
  pub flat : IsLine l

pub empty_line : Flat []
empty_line = record { flat = tt }

pub both_lines : (a b : List ℕ) → Flat a → Flat b → Flat (a ++ b)
both_lines a b p q = record { flat = AllByRecursion-append (λ b. b ≢ 10) a b p.flat q.flat }

pub with_first_byte : (b : ℕ) (l : List ℕ) → eqb b 10 ≡ false → Flat l → Flat (b ∷ l)
with_first_byte b l other p = record { flat = (λ e. let same : eqb b 10 ≡ true = rw e refl in absurd (false≢true (sym other ∙ same)), p.flat) }

-- the test computes
pub tested : (l : List ℕ) → list_all (λ b. not (eqb b 10)) l ≡ true → Flat l
tested [] e = empty_line
tested (b ∷ l) e =
    elim (cases_Bool (eqb b 10)) [
      | inl x ↦ absurd (let f = rw x at e in cc)
      | inr x ↦ with_first_byte b l x (tested l (rw x at e))
    ]

pub two_line : (n : ℕ) → Flat (two_digits n)
two_line n = record { flat = (λ e. omega (arith, e), (λ e. omega (arith, e), tt)) }

pub either_line : (b : Bool) (x y : List ℕ) → Flat x → Flat y → Flat (if b then x else y)
either_line true x y p q = p
either_line false x y p q = q

pub day_line : (w : ℕ) → Flat (day_name w)
day_line w = grind (arith, common_steps)

pub date_line : (d : CivilDay) → Flat (date_text d)
date_line d = grind (arith, common_steps)

pub clock_text_line : (n : ℕ) → Flat (clock_text n)
clock_text_line n = both_lines (two_digits (n / 60)) _ (two_line _) (with_first_byte 58 _ refl (two_line _))
