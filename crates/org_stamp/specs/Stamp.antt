-- Timestamps: their values, and the texts that write them (Org Syntax, "Timestamps").
use Rattle.std.specs.Prelude.{◌≡◌, ◌≢◌, ℕ, ◌+◌, ◌/◌, ◌%◌, ◌<◌, ◌≤◌, ◌==◌, Bool, true, false, not, ◌||◌, if◌then◌else◌, IsTrue, Option, None, Some, List, [], ◌∷◌, ◌++◌, codes, filter, count_by, length, replicate, ◌-◌, ⊤}
use Rattle.std.specs.List.{list_all, filter_map, AllByRecursion}
use Rattle.std.specs.Fmt.{decimal}
use Rattle.std.specs.Option.{option_to_list, option_map_or}
use Rattle.org_stamp.specs.Calendar.{CivilDay, Moment, IsDay, at_minute, weekday_of}
use Rattle.org_stamp.specs.declared.kind.Times.{Times}
use Rattle.org_stamp.specs.declared.kind.Repeater.{Repeater}
use Rattle.org_stamp.specs.declared.kind.Kind.{Kind}
use Rattle.org_stamp.specs.declared.kind.Kind.TheVariants.{Name, Clock, Repeat, Delay}
use Rattle.org_stamp.specs.Parts.{date_of, kind_of, is_blank, is_closing}

-- a run of bytes, and what it says
pub record Part : Type 0 where
  pub run : List ℕ
  pub kind : Kind

-- what a timestamp says: a day, perhaps a time or a range, and its repeater and delay in the order
-- in which they stand
pub record StampValue : Type 0 where
  pub active : Bool
  pub day : CivilDay
  pub time : Option Times
  pub cookies : List Part

abbrev pub is_name : Kind → Bool
is_name Name = true
is_name _ = false

abbrev pub times_in : Kind → Option Times
times_in (Clock t) = Some t
times_in _ = None

-- a repeater or a delay
abbrev pub is_cookie : Kind → Bool
is_cookie (Repeat r) = true
is_cookie Delay = true
is_cookie _ = false

-- a repeater and a delay, in either order
abbrev pub are_apart : Kind → Kind → Bool
are_apart (Repeat r) Delay = true
are_apart Delay (Repeat r) = true
are_apart _ _ = false

-- at most one repeater and one delay
abbrev pub AreApart : List Part → Type 0
AreApart [] = ⊤
AreApart (a ∷ []) = ⊤
AreApart (a ∷ b ∷ []) = IsTrue (are_apart a.kind b.kind)
AreApart (a ∷ b ∷ c ∷ more) = ⊥

-- one or more spaces and tabs
pub record IsBlanks (bytes : List ℕ) : Type 0 where
  pub some : bytes ≢ []
  pub blank : IsTrue (list_all is_blank bytes)

-- one or more bytes, none of them a blank or a closing bracket
pub record IsRun (bytes : List ℕ) : Type 0 where
  pub some : bytes ≢ []
  pub plain : IsTrue (list_all (λ b. not (is_blank b || is_closing b)) bytes)

-- a run that says what the part says
pub record IsPart (p : Part) : Type 0 where
  pub run : IsRun p.run
  pub kind : kind_of p.run ≡ Some p.kind

-- the bytes are these parts, with blanks before each
abbrev pub HasParts : List ℕ → List Part → Type 0
HasParts bytes [] = bytes ≡ []
HasParts bytes (p ∷ ps) =
    (blanks : List ℕ) × (rest : List ℕ)
    × (bytes ≡ blanks ++ (p.run ++ rest))
    × IsBlanks blanks
    × IsPart p
    × HasParts rest ps

-- the parts, in whatever order, are at most one of each kind, and say the time and the cookies of s
pub record Says (parts : List Part) (s : StampValue) : Type 0 where
  pub name : count_by (λ p. is_name p.kind) parts ≤ 1
  pub time : filter_map (λ p. times_in p.kind) parts ≡ option_to_list s.time
  pub cookies : filter (λ p. is_cookie p.kind) parts ≡ s.cookies
  pub apart : AreApart s.cookies

abbrev pub opening : Bool → ℕ
opening active = if active then 60 else 91

abbrev pub closing : Bool → ℕ
closing active = if active then 62 else 93

-- the text is a timestamp with that value: in brackets, the day's date and then parts
pub record IsStampText (text : List ℕ) (s : StampValue) : Type 0 where
  pub date : List ℕ
  pub tail : List ℕ
  pub parts : List Part
  pub split : text ≡ opening s.active ∷ (date ++ (tail ++ closing s.active ∷ []))
  pub day : date_of date ≡ Some s.day
  pub has_parts : HasParts tail parts
  pub says : Says parts s

-- a minute of the day
abbrev pub IsMinute : ℕ → Type 0
IsMinute n = n < 1440

-- the time lies within the day
abbrev pub IsTime : Option Times → Type 0
IsTime None = ⊤
IsTime (Some t) = IsMinute t.start × AllByRecursion IsMinute (option_to_list t.end)

-- a part that is a repeater or a delay
pub record IsCookie (p : Part) : Type 0 where
  pub part : IsPart p
  pub cookie : IsTrue (is_cookie p.kind)

-- what may stand after a date
pub record IsWritable (times : Option Times) (parts : List Part) : Type 0 where
  pub time : IsTime times
  pub cookies : AllByRecursion IsCookie parts
  pub apart : AreApart parts

-- a value that some timestamp has
pub record IsStamp (s : StampValue) : Type 0 where
  pub day : IsDay s.day
  pub behind : IsWritable s.time s.cookies

-- the timestamp of a moment, without cookies
abbrev pub stamp_of : Moment → Bool → Bool → StampValue
stamp_of m active timed = record {
  active = active;
  day = m.day;
  time = if timed then Some (record { start = m.minute; end = None }) else None;
  cookies = [];
}

-- where it starts, at 0:00 where it has no time
abbrev pub start_of : StampValue → Moment
start_of s = at_minute s.day (start_in s.time) where
  start_in : Option Times → ℕ
  start_in None = 0
  start_in (Some t) = t.start

-- one time, and no range
abbrev pub has_one_time : Option Times → Bool
has_one_time None = false
has_one_time (Some t) = has_no_end t.end where
  has_no_end : Option ℕ → Bool
  has_no_end None = true
  has_no_end (Some n) = false

-- it has a repeater or a delay
abbrev pub has_cookies : StampValue → Bool
has_cookies s = not (length s.cookies == 0)

abbrev pub repeater_in : Kind → Option Repeater
repeater_in (Repeat r) = Some r
repeater_in _ = None

abbrev pub first_of : Option Repeater → Option Repeater → Option Repeater
first_of None other = other
first_of (Some r) other = Some r

-- the first repeater
abbrev pub first_repeater : List Part → Option Repeater
first_repeater [] = None
first_repeater (p ∷ ps) = first_of (repeater_in p.kind) (first_repeater ps)

-- it has a repeater whose value is not 0
abbrev pub repeats : StampValue → Bool
repeats s = option_map_or (λ r. not (r.interval.value == 0)) (first_repeater s.cookies) false

-- the last two decimal digits
abbrev pub two_digits : ℕ → List ℕ
two_digits n = (48 + n / 10 % 10) ∷ (48 + n % 10) ∷ []

abbrev pub date_text : CivilDay → List ℕ
date_text d =
    (two_digits (d.year / 100) ++ two_digits d.year) ++ (45 ∷ two_digits d.month)
    ++ (45 ∷ two_digits d.day)

-- the day's name in English, three letters, from 0 for Monday
abbrev pub day_name : ℕ → List ℕ
day_name w =
    if w == 0 then codes "Mon"
    else (if w == 1 then codes "Tue"
    else (if w == 2 then codes "Wed"
    else (if w == 3 then codes "Thu"
    else (if w == 4 then codes "Fri"
    else (if w == 5 then codes "Sat" else codes "Sun")))))

-- HH:MM
abbrev pub clock_text : ℕ → List ℕ
clock_text n = two_digits (n / 60) ++ (58 ∷ two_digits (n % 60))

abbrev pub end_text : Option ℕ → List ℕ
end_text None = []
end_text (Some n) = 45 ∷ clock_text n

abbrev pub time_text : Option Times → List ℕ
time_text None = []
time_text (Some t) = 32 ∷ (clock_text t.start ++ end_text t.end)

abbrev pub cookies_text : List Part → List ℕ
cookies_text [] = []
cookies_text (p ∷ ps) = 32 ∷ (p.run ++ cookies_text ps)

-- the one text that is printed
abbrev pub stamp_text : StampValue → List ℕ
stamp_text s =
    opening s.active
    ∷ (date_text s.day ++ (32 ∷ day_name (weekday_of s.day)) ++ time_text s.time
    ++ cookies_text s.cookies ++ closing s.active ∷ [])

-- hours right-aligned in that many places, a colon, and the minutes in two digits
abbrev pub duration_text : ℕ → ℕ → List ℕ
duration_text minutes width =
    let hours = decimal (minutes / 60) in
    replicate (width - length hours) 32 ++ hours ++ 58 ∷ two_digits (minutes % 60)
