-- Dates as they are read are days of the calendar.
use Rattle.std.proofs.Common.{◌≡◌, ℕ, ◌≤◌, ◌==◌, inl, inr, true, ◌&&◌, Option, None, Some, List, length, slice_index, take, drop, nat_le, arith}
use Rattle.std.proofs.lemmas.Grind.{common_steps}
use Rattle.std.proofs.lemmas.Bool.Decides.{nat_tests}
use Rattle.org_stamp.specs.Calendar.{CivilDay, civil_day, IsDay}
use Rattle.org_stamp.specs.Parts.{◌>>=◌, number_of, date_of, day_if_any}
use Rattle.org_stamp.proofs.Found.{bind_ok, chosen}

pub valid_day : (y m n : ℕ) (d : CivilDay) → day_if_any y m n ≡ Some d → IsDay d
valid_day y m n d e = grind (arith, common_steps)

pub read_day : (text : List ℕ) (d : CivilDay) → date_of text ≡ Some d → IsDay d
read_day text d e =
    let read : Option CivilDay = number_of (take 4 text) >>= λ y. number_of (take 2 (drop 5 text)) >>= λ m. number_of (drop 8 text) >>= λ n. day_if_any y m n in
    elim (chosen ((length text == 10) && (slice_index text 4 == 45) && (slice_index text 7 == 45)) read None (Some d) e) [
      | inl h ↦
          let years = bind_ok (number_of (take 4 text)) (λ y. number_of (take 2 (drop 5 text)) >>= λ m. number_of (drop 8 text) >>= λ n. day_if_any y m n) d h.1 in
          let months = bind_ok (number_of (take 2 (drop 5 text))) (λ m. number_of (drop 8 text) >>= λ n. day_if_any years.0 m n) d years.2 in
          let days = bind_ok (number_of (drop 8 text)) (λ n. day_if_any years.0 months.0 n) d months.2 in
          valid_day years.0 months.0 days.0 d days.2
      | inr h ↦ absurd (cc)
    ]

-- a day is made of the numbers of one that the calendar has, and of no others
pub day_made : (y m n : ℕ) (d : CivilDay) → Some d ≡ day_if_any y m n → (d ≡ civil_day y m n) × IsDay d
day_made y m n d e = grind (arith, common_steps)

le_is : (a b : ℕ) → a ≤ b → nat_le a b ≡ true
le_is a b h = grind (arith, nat_tests)
