-- Days after days, by their numbers.
use Rattle.std.proofs.Common.{◌≡◌, ℕ, zero, suc, ◌+◌, ◌-◌, ◌*◌, ◌/◌, ◌%◌, ◌^◌, ◌<◌, ◌≤◌, ◌⊎◌, inl, inr, nat_lt, nat_le, None, Some, true, false, cond, ℤ, pos, neg_ℤ, ◌+ℤ◌, ◌<ℤ◌, ◌≤ℤ◌, refl, sym, ap, ◌∙◌, subst, arith, mul-le-mul_right}
use Rattle.std.specs.Int.{IsInRange}
use Rattle.std.proofs.Math.Nat.{div-mul-le_self}
use Rattle.std.proofs.lemmas.Bool.{cases_lt}
use Rattle.std.proofs.lemmas.Nat.{le-div, div_below}
use Rattle.std.proofs.lemmas.Bool.Decides.{nat_tests}
use Rattle.jiff_core.specs.declared.civil.date.Date.{Date}
use Rattle.jiff_core.specs.Calendar.{days_in_month, days_from_civil}
use Rattle.jiff_core.specs.Date.{epoch_day}
use Rattle.jiff_core.proofs.SignedLemmas.{signed_arith}
use Rattle.jiff_core.proofs.CalendarLemmas.{days_from_civil-day_count, day_count-later_year, day_count-lt_year, day_count-lt_month, day_count-day_of_year, day_count-end, day_count-next_year, days_in_month_bounds}
use Rattle.jiff_core.proofs.DateLemmas.{epoch_day_range, epoch_day_injective, days_from_civil-day, days_from_civil-next_month, days_from_civil-next_year}
use Rattle.org_stamp.specs.Calendar.{CivilDay, civil_day, IsDay, day_number, next_day, days_after, months_after, month_number, to_year_9999}
use Rattle.org_stamp.proofs.Found.{chosen}

-- a day of any year from 1 on
pub record IsCivil (d : CivilDay) : Type 0 where
  pub year : 1 ≤ d.year
  pub month : IsInRange 1 12 d.month
  pub day : IsInRange 1 (days_in_month (pos d.year) d.month) d.day

pub civil_of : (d : CivilDay) → IsDay d → IsCivil d
civil_of d h = record { year = h.0.0; month = h.1; day = h.2 }

next_cases : (d : CivilDay) → ((d.day < days_in_month (pos d.year) d.month) × (next_day d ≡ civil_day d.year d.month (d.day + 1))) ⊎ (((days_in_month (pos d.year) d.month ≤ d.day) × (d.month < 12) × (next_day d ≡ civil_day d.year (d.month + 1) 1)) ⊎ ((days_in_month (pos d.year) d.month ≤ d.day) × (12 ≤ d.month) × (next_day d ≡ civil_day (d.year + 1) 1 1)))
next_cases d =
    elim (chosen (nat_lt d.day (days_in_month (pos d.year) d.month)) (civil_day d.year d.month (d.day + 1)) (cond (nat_lt d.month 12) (civil_day d.year (d.month + 1) 1) (civil_day (d.year + 1) 1 1)) (next_day d) refl) [
      | inl h ↦ inl (grind (arith, nat_tests, h.0), sym h.1)
      | inr h ↦ elim (chosen (nat_lt d.month 12) (civil_day d.year (d.month + 1) 1) (civil_day (d.year + 1) 1 1) (next_day d) h.1) [
        | inl k ↦ inr (inl (grind (arith, nat_tests, h.0), grind (arith, nat_tests, k.0), sym k.1))
        | inr k ↦ inr (inr (grind (arith, nat_tests, h.0), grind (arith, nat_tests, k.0), sym k.1))
      ]
    ]

pub next_civil : (d : CivilDay) → IsCivil d → IsCivil (next_day d)
next_civil d h =
    elim (next_cases d) [
      | inl k ↦ rw k.1 (record { year = h.year; month = h.month; day = (omega arith, omega arith) })
      | inr (inl k) ↦ rw k.2 (record { year = h.year; month = (omega arith, omega arith); day = (omega arith, omega (arith, days_in_month_bounds (pos d.year) (d.month + 1))) })
      | inr (inr k) ↦ rw k.2 (record { year = omega arith; month = (omega arith, omega arith); day = (omega arith, omega (arith, days_in_month_bounds (pos (d.year + 1)) 1)) })
    ]

pub next_number : (d : CivilDay) → IsCivil d → day_number (next_day d) ≡ day_number d +ℤ pos 1
next_number d h =
    elim (next_cases d) [
      | inl k ↦ rw k.1 (omega (arith, signed_arith, days_from_civil-day (pos d.year) d.month d.day (d.day + 1) h.day.0 (omega arith)))
      | inr (inl k) ↦ rw k.2 (days_from_civil-next_month (pos d.year) d.month d.day h.month.0 (omega arith))
      | inr (inr k) ↦
          let last : d.month ≡ 12 = omega arith in
          let long : days_in_month (pos d.year) d.month ≡ 31 = rw last refl in
          let end : d.day ≡ 31 = omega (arith, h.day, long) in
          let low : neg_ℤ (pos 10000) ≤ℤ pos d.year = omega (arith, signed_arith) in
          let next : pos (d.year + 1) ≡ pos d.year +ℤ pos 1 = omega (arith, signed_arith) in
          rw (k.2, last, end) (days_from_civil-next_year (pos d.year) (pos (d.year + 1)) low next)
    ]

pub after_civil : (d : CivilDay) (n : ℕ) → IsCivil d → IsCivil (days_after d n)
unfolding days_after
after_civil d zero h = h
after_civil d (suc n) h = next_civil (days_after d n) (after_civil d n h)

one_more : (z : ℤ) (n : ℕ) → z +ℤ pos n +ℤ pos 1 ≡ z +ℤ pos (suc n)
one_more z n = omega (arith, signed_arith)

none_more : (z : ℤ) → z ≡ z +ℤ pos 0
none_more z = omega (arith, signed_arith)

-- n days later the number is greater by n
pub after_number : (d : CivilDay) (n : ℕ) → IsCivil d → day_number (days_after d n) ≡ day_number d +ℤ pos n
unfolding days_after
after_number d zero h = none_more (day_number d)
after_number d (suc n) h = next_number (days_after d n) (after_civil d n h) ∙ ap (λ z. z +ℤ pos 1) (after_number d n h) ∙ one_more (day_number d) n

-- the library's date, of a day up to the year 9999
date_of_day : (d : CivilDay) → IsCivil d → d.year ≤ 9999 → Date
date_of_day d h last = record { year = pos d.year; month = d.month; day = d.day; year_in = (omega (arith, signed_arith), omega (arith, signed_arith)); month_in = h.month; day_in = h.day }

pub last_number : (d : CivilDay) → IsCivil d → d.year ≤ 9999 → (neg_ℤ (pos 4_371_587) ≤ℤ day_number d) × (day_number d ≤ℤ pos 2_932_896)
unfolding date_of_day
last_number d h last = epoch_day_range (date_of_day d h last)

past_number : (d : CivilDay) → IsCivil d → 9999 < d.year → pos 2_932_896 <ℤ day_number d
past_number d h past =
    let low : neg_ℤ (pos 10000) ≤ℤ pos 9999 = omega (arith, signed_arith) in
    let next : pos 10000 ≡ pos 9999 +ℤ pos 1 = omega (arith, signed_arith) in
    let later : pos 9999 <ℤ pos d.year = omega (arith, signed_arith) in
    let years = day_count-later_year (pos 9999) (pos d.year) low later in
    let first = day_count-next_year (pos 9999) (pos 10000) low next in
    let day = day_count-day_of_year (pos d.year) d.month d.day h.day.0 in
    omega (arith, signed_arith, years, first, day, day_count-end, days_from_civil-day_count (pos d.year) d.month d.day)

-- up to the last day the year is not past 9999
pub year_within : (d : CivilDay) → IsCivil d → day_number d ≤ℤ pos 2_932_896 → d.year ≤ 9999
year_within d h last =
    elim (cases_lt 9999 d.year) [
      | inl k ↦ let past = past_number d h k in absurd (omega (arith, signed_arith))
      | inr k ↦ k
    ]

-- one day has the number
pub same_parts : (date : Date) (d : CivilDay) → IsCivil d → d.year ≤ 9999 → epoch_day date ≡ day_number d → (date.year ≡ pos d.year) × (date.month ≡ d.month) × (date.day ≡ d.day)
unfolding date_of_day
same_parts date d h last e = epoch_day_injective date (date_of_day d h last) e

pub record IsFoundDay (date : Date) (d : CivilDay) : Type 0 where
  pub civil : IsCivil d
  pub last : d.year ≤ 9999
  pub year : date.year ≡ pos d.year
  pub month : date.month ≡ d.month
  pub day : date.day ≡ d.day

pub found_day : (d : CivilDay) (n : ℕ) (date : Date) → IsDay d → epoch_day date ≡ day_number d +ℤ pos n → IsFoundDay date (days_after d n)
found_day d n date h e =
    let civil = after_civil d n (civil_of d h) in
    let number = after_number d n (civil_of d h) in
    let range = epoch_day_range date in
    let last = year_within (days_after d n) civil (rw (number, ← e) range.1) in
    let parts = same_parts date (days_after d n) civil last (e ∙ sym number) in
    record { civil = civil; last = last; year = parts.0; month = parts.1; day = parts.2 }

-- where the library has no such day, the year is past 9999
pub no_day : (d : CivilDay) (n : ℕ) → IsDay d → ((neg_ℤ (pos 4_371_587) ≤ℤ (day_number d +ℤ pos n)) × ((day_number d +ℤ pos n) ≤ℤ pos 2_932_896) → ⊥) → 9999 < (days_after d n).year
no_day d n h none =
    let civil = after_civil d n (civil_of d h) in
    let number = after_number d n (civil_of d h) in
    elim (cases_lt 9999 (days_after d n).year) [
      | inl k ↦ k
      | inr k ↦ let range = last_number (days_after d n) civil k in absurd (none (rw number at range))
    ]

pub to_year_in : (d : CivilDay) → d.year ≤ 9999 → to_year_9999 d ≡ Some d
to_year_in d h = let in_time : nat_le d.year 9999 ≡ true = grind (arith, nat_tests) in rw in_time refl

pub to_year_past : (d : CivilDay) → 9999 < d.year → to_year_9999 d ≡ None
to_year_past d h = let past : nat_le d.year 9999 ≡ false = grind (arith, nat_tests) in rw past refl

pub same_day : (a b : CivilDay) → a.year ≡ b.year → a.month ≡ b.month → a.day ≡ b.day → a ≡ b
same_day a b e f g = ap (λ y. civil_day y a.month a.day) e ∙ ap (λ m. civil_day b.year m a.day) f ∙ ap (λ n. civil_day b.year b.month n) g

pub same_pos : (m n : ℕ) (z : ℤ) → pos m ≡ z → z ≡ pos n → m ≡ n
same_pos m n z e f = omega (arith, signed_arith, e, f)

-- ---- months

pub month_number-after : (d : CivilDay) (n : ℕ) → IsDay d → month_number (months_after d n) ≡ month_number d + n
month_number-after d n h = omega arith

-- a day of an earlier month has a smaller number
pub earlier_month : (d e : CivilDay) → IsDay d → IsCivil e → month_number d < month_number e → day_number d <ℤ day_number e
earlier_month d e h k lt =
    let y : (neg_ℤ (pos 9999) ≤ℤ pos d.year) × (pos d.year ≤ℤ pos 9999) = (omega (arith, signed_arith), omega (arith, signed_arith)) in
    elim (cases_lt d.year e.year) [
      | inl year ↦
          let later : pos d.year <ℤ pos e.year = omega (arith, signed_arith) in
          let counts = day_count-lt_year (pos d.year) d.month d.day (pos e.year) e.month e.day (y, h.1, h.2) k.day.0 later in
          omega (arith, signed_arith, counts, days_from_civil-day_count (pos d.year) d.month d.day, days_from_civil-day_count (pos e.year) e.month e.day)
      | inr year ↦
          let same : e.year ≡ d.year = omega arith in
          let month : d.month < e.month = omega arith in
          let counts = day_count-lt_month (pos d.year) d.month d.day e.month e.day (y, h.1, h.2) k.day.0 month in
          let number : day_number e ≡ days_from_civil (pos d.year) e.month e.day = rw same refl in
          rw number (omega (arith, signed_arith, counts, days_from_civil-day_count (pos d.year) d.month d.day, days_from_civil-day_count (pos d.year) e.month e.day))
    ]

pub months_civil : (d : CivilDay) (n : ℕ) → IsDay d → IsCivil (months_after d n)
months_civil d n h =
    let year : 1 ≤ (month_number d + n) / 12 = omega arith in
    let long = days_in_month_bounds (pos ((month_number d + n) / 12)) ((month_number d + n) % 12 + 1) in
    record { year = year; month = (omega arith, omega arith); day = (omega (arith, long), omega arith) }

-- the target is the number of a day, or of the one after it
abbrev pub IsTarget : ℤ → CivilDay → Type 0
IsTarget target e = (target ≡ day_number e) ⊎ (target ≡ day_number e +ℤ pos 1)

-- months that lead past its month reach it
pub reach : (d e : CivilDay) (n : ℕ) (target : ℤ) → IsDay d → IsDay e → month_number e < month_number d + n → IsTarget target e → target ≤ℤ day_number (months_after d n)
reach d e n target h k lt is =
    let number = month_number-after d n h in
    let later = earlier_month e (months_after d n) k (months_civil d n h) (rw number lt) in
    elim is [ inl same ↦ omega (arith, signed_arith, later, same) | inr same ↦ omega (arith, signed_arith, later, same) ]

months_day : (d e : CivilDay) (n : ℕ) → IsDay d → IsDay e → month_number d + n ≤ month_number e → IsDay (months_after d n)
months_day d e n h k le =
    let civil = months_civil d n h in
    let number = month_number-after d n h in
    ((civil.year, omega arith), civil.month, civil.day)

-- months that lead to no later month than its own stay within the years
pub months_within : (d e : CivilDay) (n : ℕ) → IsDay d → IsDay e → month_number d + n ≤ month_number e → (months_after d n).year ≤ 9999
months_within d e n h k le = (months_day d e n h k le).0.1

-- and months that lead to an earlier month miss it
pub miss : (d e : CivilDay) (n : ℕ) (target : ℤ) → IsDay d → IsDay e → month_number d + n < month_number e → IsTarget target e → day_number (months_after d n) <ℤ target
miss d e n target h k lt is =
    let number = month_number-after d n h in
    let within : month_number d + n ≤ month_number e = omega arith in
    let earlier = earlier_month (months_after d n) e (months_day d e n h k within) (civil_of e k) (rw number lt) in
    elim is [ inl same ↦ omega (arith, signed_arith, earlier, same) | inr same ↦ omega (arith, signed_arith, earlier, same) ]

-- fewer steps than fit stay below
pub few_steps : (from to step j : ℕ) → 1 ≤ step → from ≤ to → j < (to - from) / step → from + j * step < to
few_steps from to step j some le lt =
    let next : j + 1 ≤ (to - from) / step = omega arith in
    let more = mul-le-mul_right step next in
    let most = div-mul-le_self (to - from) step in
    omega (arith, more, most)

pub whole_steps : (from to step : ℕ) → from ≤ to → from + (to - from) / step * step ≤ to
whole_steps from to step le = omega (arith, div-mul-le_self (to - from) step)

-- where one step fits, the whole steps are one at least, and few
pub whole_some : (from to step : ℕ) → 1 ≤ step → from + step ≤ to → 1 ≤ (to - from) / step
whole_some from to step some le = le-div 1 (to - from) step some (omega (arith, le))

pub whole_few : (e : CivilDay) (from to step : ℕ) → IsDay e → to ≡ month_number e → 1 ≤ step → (to - from) / step + 1 ≤ 2 ^ 20
whole_few e from to step h is some =
    let early : to < 2 ^ 20 - 1 = omega (arith, is, h.0.1, h.1.1) in
    let few : (to - from) / step < 2 ^ 20 - 1 = div_below (to - from) step (2 ^ 20 - 1) some (omega (arith, early, some)) in
    omega (arith, few)

pub past_steps : (from to step : ℕ) → 1 ≤ step → from ≤ to → to < from + ((to - from) / step + 1) * step
past_steps from to step some le = omega arith

pub found_months : (d : CivilDay) (n : ℕ) (r : CivilDay) → Some r ≡ to_year_9999 (months_after d n) → r ≡ months_after d n
found_months d n r e =
    elim (chosen (nat_le (months_after d n).year 9999) (Some (months_after d n)) None (Some r) (sym e)) [
      | inl h ↦ let same : months_after d n ≡ r = cc in sym same
      | inr h ↦ absurd (cc)
    ]

pub reached_at : (t : ℤ) (r e : CivilDay) → r ≡ e → t ≤ℤ day_number r → t ≤ℤ day_number e
reached_at t r e same h = subst (λ (d : CivilDay). t ≤ℤ day_number d) same h

pub missed_at : (t : ℤ) (r e : CivilDay) → r ≡ e → day_number r <ℤ t → day_number e <ℤ t
missed_at t r e same h = subst (λ (d : CivilDay). day_number d <ℤ t) same h

pub missed_steps : (d : CivilDay) (j k step : ℕ) (t : ℤ) → k ≡ j → day_number (months_after d (k * step)) <ℤ t → day_number (months_after d (j * step)) <ℤ t
missed_steps d j k step t same h = subst (λ (n : ℕ). day_number (months_after d (n * step)) <ℤ t) same h
