-- Days and months that the library adds to a day.
use Rattle.std.proofs.Common.{◌≡◌, ℕ, ◌<◌, ◌≤◌, Bool, true, false, ℤ, pos, ◌+ℤ◌, ap, ◌∙◌, arith}
use Rattle.std.proofs.lemmas.Grind.{common_steps}
use Rattle.std.proofs.lemmas.Bool.{cases_lt}
use Rattle.jiff_core.specs.declared.civil.date.Date.{Date}
use Rattle.jiff_core.specs.declared.span.Span.{Span}
use Rattle.jiff_core.specs.declared.unit.Unit.{Unit as TimeUnit}
use Rattle.jiff_core.specs.declared.unit.Unit.TheVariants.{Nanosecond, Microsecond, Millisecond, Second, Minute, Hour, Day, Week, Month, Year}
use Rattle.jiff_core.specs.Calendar.{days_from_civil}
use Rattle.jiff_core.specs.Date.{epoch_day}
use Rattle.jiff_core.specs.Sign.{signed}
use Rattle.jiff_core.specs.Span.{SetsUnit, total_magnitude, span_months, span_days, clock_days}
use Rattle.jiff_core.proofs.SignedLemmas.{signed_arith}
use Rattle.jiff_core.proofs.DateLemmas.{epoch_day_range}
use Rattle.jiff.specs.Words.{date_add, CanAddToDate, shifted_year, shifted_month}
use Rattle.org_stamp.specs.Calendar.{CivilDay, IsDay, day_number, months_after}
use Rattle.org_stamp.proofs.Later.{IsFoundDay, last_number, year_within, same_parts, months_civil}

-- the library's date of the day
pub record IsDateOf (d : CivilDay) (a : Date) : Type 0 where
  pub year : a.year ≡ pos d.year
  pub month : a.month ≡ d.month
  pub day : a.day ≡ d.day

same_number : (d : CivilDay) (a : Date) → IsDateOf d a → epoch_day a ≡ day_number d
same_number d a is = ap (λ y. days_from_civil y a.month a.day) is.year ∙ ap (λ m. days_from_civil (pos d.year) m a.day) is.month ∙ ap (λ n. days_from_civil (pos d.year) d.month n) is.day

-- the span goes that many months and days forward, and no part of a day
pub record GoesOn (months days : ℕ) (s : Span) : Type 0 where
  pub months_are : span_months s ≡ pos months
  pub days_are : span_days s ≡ pos days
  pub clock : clock_days s ≡ pos 0

signed_forward : (b : Bool) (m n : ℕ) → b ≡ false → m ≡ n → signed b m ≡ pos n
signed_forward true m n is same = absurd (cc)
signed_forward false m n is same = ap pos same

signed_zero : (b : Bool) (n : ℕ) → n ≡ 0 → signed b n ≡ pos 0
signed_zero true n none = omega (arith, signed_arith)
signed_zero false n none = omega (arith, signed_arith)

-- one unit of a span without any was set to n
set_forward : (unit : TimeUnit) (n : ℕ) (z : ℤ) (old s : Span) → total_magnitude old ≡ 0 → SetsUnit unit z old s → z ≡ pos n → s.negative ≡ false
set_forward unit n z old s none sets is = grind (arith, common_steps)

no_clock : (old s : Span) → total_magnitude old ≡ 0 → s.hours ≡ old.hours → s.minutes ≡ old.minutes → s.seconds ≡ old.seconds → s.milliseconds ≡ old.milliseconds → s.microseconds ≡ old.microseconds → s.nanoseconds ≡ old.nanoseconds
    → clock_days s ≡ pos 0
no_clock old s none hours minutes seconds milli micro nano = signed_zero s.negative _ (omega (arith, none, hours, minutes, seconds, milli, micro, nano))

pub by_months : (n : ℕ) (z : ℤ) (old s : Span) → total_magnitude old ≡ 0 → SetsUnit Month z old s → z ≡ pos n → GoesOn n 0 s
by_months n z old s none sets is =
    let years : s.years ≡ 0 = omega (arith, sets.others Year (omega arith), none) in
    let weeks : s.weeks ≡ 0 = omega (arith, sets.others Week (omega arith), none) in
    let days : s.days ≡ 0 = omega (arith, sets.others Day (omega arith), none) in
    record {
      months_are = signed_forward s.negative _ n (set_forward Month n z old s none sets is) (omega (arith, signed_arith, years, sets.value, is));
      days_are = signed_zero s.negative _ (omega (arith, weeks, days));
      clock = no_clock old s none (sets.others Hour (omega arith)) (sets.others Minute (omega arith)) (sets.others Second (omega arith)) (sets.others Millisecond (omega arith)) (sets.others Microsecond (omega arith)) (sets.others Nanosecond (omega arith));
    }

-- ---- days

-- the number of the day that lies so many days after the library's date
pub days_added : (d : CivilDay) (a start : Date) (n : ℕ) (days e : ℤ) → IsDateOf d a → start ≡ a → days ≡ pos n → e ≡ epoch_day start +ℤ days → e ≡ day_number d +ℤ pos n
days_added d a start n days e is same count sum = omega (arith, signed_arith, sum, count, ap epoch_day same, same_number d a is)

-- ---- months

shifted : (d : CivilDay) (a : Date) (n : ℕ) → IsDay d → IsDateOf d a → (shifted_year a (pos n) ≡ pos (months_after d n).year) × (shifted_month a (pos n) ≡ (months_after d n).month)
shifted d a n h is = omega (arith, signed_arith, is.year, is.month, h.1)

pub months_added : (d : CivilDay) (a : Date) (n : ℕ) (s : Span) → IsDay d → IsDateOf d a → GoesOn n 0 s → date_add a s ≡ day_number (months_after d n)
months_added d a n s h is on = grind (arith, common_steps)

pub months_fit : (d : CivilDay) (a : Date) (n : ℕ) (s : Span) → IsDay d → IsDateOf d a → GoesOn n 0 s → (months_after d n).year ≤ 9999 → CanAddToDate a s
months_fit d a n s h is on last =
    let added = months_added d a n s h is on in
    let parts = shifted d a n h is in
    (rw (on.months_are, parts.0) (omega (arith, signed_arith, last)), rw added (last_number (months_after d n) (months_civil d n h) last))

-- where the library has no such day, the year is past 9999
pub no_months : (d : CivilDay) (a : Date) (n : ℕ) (s : Span) → IsDay d → IsDateOf d a → GoesOn n 0 s → (CanAddToDate a s → ⊥) → 9999 < (months_after d n).year
no_months d a n s h is on none = grind (arith, common_steps, cases_lt, months_fit)

-- the library's date of the day that the number has
pub months_found : (d : CivilDay) (n : ℕ) (date : Date) → IsDay d → epoch_day date ≡ day_number (months_after d n) → IsFoundDay date (months_after d n)
months_found d n date h e =
    let civil = months_civil d n h in
    let range = epoch_day_range date in
    let last = year_within (months_after d n) civil (rw (← e) range.1) in
    let parts = same_parts date (months_after d n) civil last e in
    record { civil = civil; last = last; year = parts.0; month = parts.1; day = parts.2 }
