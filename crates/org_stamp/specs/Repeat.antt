-- Repeated timestamps (Org manual, "Repeated tasks").
use Rattle.std.specs.Prelude.{◌≡◌, ℕ, ◌+◌, ◌*◌, ◌/◌, ◌%◌, ◌^◌, ◌<◌, ◌≤◌, ◌==◌, zero, suc, nat_le, nat_lt, int_lt, ℤ, pos, ◌+ℤ◌, Bool, true, false, not, ◌&&◌, if◌then◌else◌, MatchBool, ◌<ℤ◌, Option, None, Some, Result, Ok, Err}
use Rattle.org_stamp.specs.Calendar.{CivilDay, Moment, day_number, minutes_of, days_after, months_after}
use Rattle.org_stamp.specs.declared.kind.Times.{Times}
use Rattle.org_stamp.specs.declared.kind.Unit.{Unit}
use Rattle.org_stamp.specs.declared.kind.Unit.TheVariants.{Hour, Day, Week, Month, Year}
use Rattle.org_stamp.specs.declared.kind.Base.{Base}
use Rattle.org_stamp.specs.declared.kind.Base.TheVariants.{Minutes, Days, Months}
use Rattle.org_stamp.specs.declared.kind.Mark.{Mark}
use Rattle.org_stamp.specs.declared.kind.Mark.TheVariants.{Cumulate, CatchUp, Restart}
use Rattle.org_stamp.specs.declared.kind.Interval.{Interval}
use Rattle.org_stamp.specs.declared.kind.Repeater.{Repeater}
use Rattle.org_fault.specs.declared.refusal.Refusal.{Refusal}
use Rattle.org_fault.specs.declared.refusal.Refusal.TheVariants.{BadRepeat, DateRange}
use Rattle.org_stamp.specs.Stamp.{StampValue, start_of, has_one_time, first_repeater}

abbrev pub is_hour : Unit → Bool
is_hour Hour = true
is_hour _ = false

-- hours repeat one time alone
abbrev pub is_barred : Unit → StampValue → Bool
is_barred unit s = is_hour unit && not (has_one_time s.time)

-- that many minutes from the start of the day
abbrev pub at_total : StampValue → CivilDay → ℕ → StampValue
at_total s day total =
    record s {
      day = days_after day (total / 1440);
      time = Some (record { start = total % 1440; end = None });
    }

-- n units, in minutes, days or months
abbrev pub in_base : Unit → ℕ → Base × ℕ
in_base Hour n = (Minutes, 60 * n)
in_base Day n = (Days, n)
in_base Week n = (Days, 7 * n)
in_base Month n = (Months, n)
in_base Year n = (Months, 12 * n)

-- s moved at once by n minutes, days or months; minutes move a time, the others keep it
abbrev pub moved : StampValue → Base → ℕ → StampValue
moved s Minutes n = at_total s s.day ((start_of s).minute + n)
moved s Days n = record s { day = days_after s.day n }
moved s Months n = record s { day = months_after s.day n }

-- s moved at once by k times its repeater
abbrev pub shifted : StampValue → Interval → ℕ → StampValue
shifted s i k = let step = in_base i.unit i.value in moved s step.0 (k * step.1)

-- it starts after that moment, or on a later day where it has no time
abbrev pub IsLaterBy : Option Times → StampValue → Moment → Type 0
IsLaterBy None s now = day_number now.day <ℤ day_number s.day
IsLaterBy (Some t) s now = minutes_of now <ℤ minutes_of (start_of s)

abbrev pub IsLater : StampValue → Moment → Type 0
IsLater s now = IsLaterBy s.time s now

-- the day of now with the time kept, or now where hours repeat
abbrev pub restarted : StampValue → Unit → Moment → StampValue
restarted s Hour now =
    record s { day = now.day; time = Some (record { start = now.minute; end = None }) }
restarted s _ now = record s { day = now.day }

-- the value, unless its year is past 9999
abbrev pub in_range : StampValue → Result StampValue Refusal
in_range s = if nat_le s.day.year 9999 then Ok s else Err DateRange

-- `+` once, `++` the least number of times from 1 on that leads past now, `.+` once from now
abbrev pub RepeatsBy : Mark → Interval → StampValue → Moment → Result StampValue Refusal
    → Type 0
RepeatsBy Cumulate i s now r = r ≡ in_range (shifted s i 1)
RepeatsBy CatchUp i s now r =
    (k : ℕ)
    × (1 ≤ k)
    × IsLater (shifted s i k) now
    × ((j : ℕ) → 1 ≤ j → j < k → ¬ (IsLater (shifted s i j) now))
    × (r ≡ in_range (shifted s i k))
RepeatsBy Restart i s now r = r ≡ in_range (shifted (restarted s i.unit now) i 1)

-- the value 0 repeats nothing
abbrev pub RepeatsAs : Option Repeater → StampValue → Moment → Result StampValue Refusal
    → Type 0
RepeatsAs None s now r = r ≡ Ok s
RepeatsAs (Some p) s now r =
    MatchBool (p.interval.value == 0) (r ≡ Ok s)
    (MatchBool (is_barred p.interval.unit s) (r ≡ Err BadRepeat)
    (RepeatsBy p.mark p.interval s now r))

-- the timestamp at the next repetition, or the fault
abbrev pub IsNext : StampValue → Moment → Result StampValue Refusal → Type 0
IsNext s now r = RepeatsAs (first_repeater s.cookies) s now r

-- ---- the same, computed

abbrev pub is_later_by : Option Times → StampValue → Moment → Bool
is_later_by None s now = int_lt (day_number now.day) (day_number s.day)
is_later_by (Some t) s now = int_lt (minutes_of now) (minutes_of (start_of s))

abbrev pub is_later : StampValue → Moment → Bool
is_later s now = is_later_by s.time s now

-- the first number from k on of which f is true; the one after the n that are tried, where it is
-- true of none of them
unfoldable pub first_from : (ℕ → Bool) → ℕ → ℕ → ℕ
first_from f zero k = k
first_from f (suc n) k = if f k then k else first_from f n (k + 1)

-- more than there are hours in the years of timestamps
abbrev pub most_times : ℕ
most_times = 2 ^ 32

abbrev pub repeated_by : Mark → Interval → StampValue → Moment → Result StampValue Refusal
repeated_by Cumulate i s now = in_range (shifted s i 1)
repeated_by CatchUp i s now =
    in_range (shifted s i (first_from (λ k. is_later (shifted s i k) now) most_times 1))
repeated_by Restart i s now = in_range (shifted (restarted s i.unit now) i 1)

abbrev pub repeated_as : Option Repeater → StampValue → Moment → Result StampValue Refusal
repeated_as None s now = Ok s
repeated_as (Some p) s now =
    if p.interval.value == 0 then Ok s
    else (if is_barred p.interval.unit s then Err BadRepeat
    else repeated_by p.mark p.interval s now)

-- the timestamp at the next repetition, or the fault
abbrev pub repeated : StampValue → Moment → Result StampValue Refusal
repeated s now = repeated_as (first_repeater s.cookies) s now

abbrev pub IsRepeated : StampValue → Moment → Result StampValue Refusal → Type 0
IsRepeated s now r = r ≡ repeated s now

-- ---- days and times apart

-- with that day and time, unless there is no day
abbrev pub dated : StampValue → Option CivilDay → Option Times → Result StampValue Refusal
dated s None t = Err DateRange
dated s (Some d) t = Ok (record s { day = d; time = t })

-- the number of the first day on which a timestamp of that time starts after now
abbrev pub target_of : Option Times → Moment → ℤ
target_of None now = day_number now.day +ℤ pos 1
target_of (Some t) now =
    if nat_lt now.minute t.start then day_number now.day else day_number now.day +ℤ pos 1
