-- The parts of a timestamp's inside (Org Syntax, "Timestamps": YYYY-MM-DD, DAYNAME, HH:MM,
-- REPEATER-OR-DELAY).
use Rattle.std.specs.Prelude.{ℕ, ◌+◌, ◌-◌, ◌*◌, nat_lt, nat_le, ◌==◌, Bool, not, ◌&&◌, ◌||◌, if◌then◌else◌, Option, None, Some, List, length, slice_index, take, drop, fold, pos}
use Rattle.std.specs.List.{list_all, position}
use Rattle.std.specs.Char.{is_ascii_digit}
use Rattle.jiff_core.specs.Calendar.{days_in_month}
use Rattle.org_stamp.specs.Calendar.{CivilDay, civil_day}
use Rattle.org_stamp.specs.declared.kind.Unit.{Unit}
use Rattle.org_stamp.specs.declared.kind.Unit.TheVariants.{Hour, Day, Week, Month, Year}
use Rattle.org_stamp.specs.declared.kind.Mark.{Mark}
use Rattle.org_stamp.specs.declared.kind.Mark.TheVariants.{Cumulate, CatchUp, Restart}
use Rattle.org_stamp.specs.declared.kind.Times.{Times}
use Rattle.org_stamp.specs.declared.kind.Interval.{Interval}
use Rattle.org_stamp.specs.declared.kind.Repeater.{Repeater}
use Rattle.org_stamp.specs.declared.kind.Kind.{Kind}
use Rattle.org_stamp.specs.declared.kind.Kind.TheVariants.{Name, Clock, Repeat, Delay}

-- the second is read where the first was
infixl 10 ◌>>=◌
abbrev pub ◌>>=◌ : {A B : Type 0} → Option A → (A → Option B) → Option B
None >>= f = None
(Some x) >>= f = f x

-- the number that one to four digits write
abbrev pub number_of : List ℕ → Option ℕ
number_of text =
    if nat_le 1 (length text) && nat_le (length text) 4 && list_all is_ascii_digit text
    then Some (fold (λ n b. 10 * n + (b - 48)) 0 text)
    else None

-- the day, where the calendar has it in a year from 0001 to 9999
abbrev pub day_if_any : ℕ → ℕ → ℕ → Option CivilDay
day_if_any y m d =
    if nat_le 1 y
    && nat_le y 9999
    && nat_le 1 m
    && nat_le m 12
    && nat_le 1 d
    && nat_le d (days_in_month (pos y) m)
    then Some (civil_day y m d)
    else None

-- YYYY-MM-DD
abbrev pub date_of : List ℕ → Option CivilDay
date_of text =
    if (length text == 10) && (slice_index text 4 == 45) && (slice_index text 7 == 45)
    then (number_of (take 4 text) >>= λ y.
    number_of (take 2 (drop 5 text)) >>= λ m.
    number_of (drop 8 text) >>= λ d.
    day_if_any y m d)
    else None

-- the minute of the day, from 0:00 to 23:59
abbrev pub minute_if_any : ℕ → ℕ → Option ℕ
minute_if_any h m = if nat_lt h 24 && nat_lt m 60 then Some (h * 60 + m) else None

-- H:MM or HH:MM
abbrev pub clock_of : List ℕ → Option ℕ
clock_of text =
    if nat_le 4 (length text)
    && nat_le (length text) 5
    && (slice_index text (length text - 3) == 58)
    then (number_of (take (length text - 3) text) >>= λ h.
    number_of (drop (length text - 2) text) >>= λ m.
    minute_if_any h m)
    else None

-- a time, or two joined by `-`, where `at` is the place of the first `-`
abbrev pub times_cut : List ℕ → Option ℕ → Option Times
times_cut text None = clock_of text >>= λ start. Some (record { start = start; end = None })
times_cut text (Some at) =
    clock_of (take at text) >>= λ start.
    clock_of (drop (at + 1) text) >>= λ end.
    Some (record { start = start; end = Some end })

-- H:MM, HH:MM or a range of two
abbrev pub times_of : List ℕ → Option Times
times_of text = times_cut text (position (λ b. b == 45) text)

-- h d w m y
abbrev pub unit_of : ℕ → Option Unit
unit_of b =
    if b == 104 then Some Hour
    else (if b == 100 then Some Day
    else (if b == 119 then Some Week
    else (if b == 109 then Some Month
    else (if b == 121 then Some Year else None))))

-- one to four digits and a unit
abbrev pub interval_of : List ℕ → Option Interval
interval_of text =
    unit_of (slice_index text (length text - 1)) >>= λ unit.
    number_of (take (length text - 1) text) >>= λ value.
    Some (record { value = value; unit = unit })

-- an interval, or two joined by `/`, of which the second is only kept; `at` is the place of the
-- first `/`
abbrev pub intervals_cut : List ℕ → Option ℕ → Option Interval
intervals_cut text None = interval_of text
intervals_cut text (Some at) =
    interval_of (take at text) >>= λ first.
    interval_of (drop (at + 1) text) >>= λ second.
    Some first

-- the first interval of a repeater
abbrev pub first_interval_of : List ℕ → Option Interval
first_interval_of text = intervals_cut text (position (λ b. b == 47) text)

-- the repeater of that mark
abbrev pub marked : Mark → List ℕ → Option Repeater
marked mark text = first_interval_of text >>= λ i. Some (record { mark = mark; interval = i })

-- `.+`, `++` or `+` before intervals (Org manual, "Repeated tasks")
abbrev pub repeater_of : List ℕ → Option Repeater
repeater_of text =
    if (slice_index text 0 == 46) && (slice_index text 1 == 43) then marked Restart (drop 2 text)
    else (if (slice_index text 0 == 43) && (slice_index text 1 == 43)
    then marked CatchUp (drop 2 text)
    else (if slice_index text 0 == 43 then marked Cumulate (drop 1 text) else None))

-- `-` or `--` before an interval (Org manual, "Deadlines and Scheduling")
abbrev pub delay_of : List ℕ → Option Interval
delay_of text =
    if slice_index text 0 == 45
    then interval_of (if slice_index text 1 == 45 then drop 2 text else drop 1 text)
    else None

-- space or tab
abbrev pub is_blank : ℕ → Bool
is_blank b = (b == 32) || (b == 9)

-- `]` or `>`
abbrev pub is_closing : ℕ → Bool
is_closing b = (b == 93) || (b == 62)

-- a byte of a day name: no blank, newline, digit, `+`, `-` or closing bracket
abbrev pub is_name_byte : ℕ → Bool
is_name_byte b =
    not (is_blank b || is_closing b || is_ascii_digit b || (b == 10) || (b == 43) || (b == 45))

-- what a run of bytes other than blanks says
abbrev pub kind_of : List ℕ → Option Kind
kind_of run =
    if list_all is_name_byte run then Some Name
    else (if is_ascii_digit (slice_index run 0) then (times_of run >>= λ t. Some (Clock t))
    else (if slice_index run 0 == 45 then (delay_of run >>= λ i. Some Delay)
    else (repeater_of run >>= λ r. Some (Repeat r))))
