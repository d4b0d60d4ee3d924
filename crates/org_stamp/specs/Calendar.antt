-- Days and minutes of the civil calendar, years 0001 to 9999 (Org Syntax, "Timestamps": DATE and
-- TIME).
use Rattle.std.specs.Prelude.{ℕ, zero, suc, ◌+◌, ◌-◌, ◌*◌, ◌/◌, ◌%◌, min, nat_lt, nat_le, if◌then◌else◌, Option, None, Some, pos, ◌+ℤ◌, ◌*ℤ◌, ℤ}
use Rattle.std.specs.Int.{IsInRange}
use Rattle.jiff_core.specs.Calendar.{days_in_month, days_from_civil, weekday_number}

-- a day: year, month from 1, day of the month from 1
pub record CivilDay : Type 0 where
  pub year : ℕ
  pub month : ℕ
  pub day : ℕ

-- the day with these parts
abbrev pub civil_day : ℕ → ℕ → ℕ → CivilDay
civil_day y m d = record { year = y; month = m; day = d }

-- a day, and the minute of it from 0:00
pub record Moment : Type 0 where
  pub day : CivilDay
  pub minute : ℕ

-- that minute of the day
abbrev pub at_minute : CivilDay → ℕ → Moment
at_minute d n = record { day = d; minute = n }

-- the calendar has the day, in a year from 0001 to 9999
abbrev pub IsDay : CivilDay → Type 0
IsDay d =
    IsInRange 1 9999 d.year × IsInRange 1 12 d.month
    × IsInRange 1 (days_in_month (pos d.year) d.month) d.day

-- days since 1970-01-01, negative before it
abbrev pub day_number : CivilDay → ℤ
day_number d = days_from_civil (pos d.year) d.month d.day

-- the day of the week, from 0 for Monday
abbrev pub weekday_of : CivilDay → ℕ
weekday_of d = weekday_number (day_number d)

-- minutes since 1970-01-01 0:00, negative before it: by them moments are ordered and their distance
-- is taken
abbrev pub minutes_of : Moment → ℤ
minutes_of m = day_number m.day *ℤ pos 1440 +ℤ pos m.minute

-- the day after
abbrev pub next_day : CivilDay → CivilDay
next_day d =
    if nat_lt d.day (days_in_month (pos d.year) d.month) then civil_day d.year d.month (d.day + 1)
    else (if nat_lt d.month 12 then civil_day d.year (d.month + 1) 1
    else civil_day (d.year + 1) 1 1)

-- n days later
unfoldable pub days_after : CivilDay → ℕ → CivilDay
days_after d zero = d
days_after d (suc n) = next_day (days_after d n)

-- months since January of the year 0
abbrev pub month_number : CivilDay → ℕ
month_number d = d.year * 12 + (d.month - 1)

-- n months later: the same day of that month, or its last where it is shorter
abbrev pub months_after : CivilDay → ℕ → CivilDay
months_after d n =
    let year = (month_number d + n) / 12 in
    let month = (month_number d + n) % 12 + 1 in
    civil_day year month (min d.day (days_in_month (pos year) month))

-- the day, unless its year is past 9999
abbrev pub to_year_9999 : CivilDay → Option CivilDay
to_year_9999 d = if nat_le d.year 9999 then Some d else None
