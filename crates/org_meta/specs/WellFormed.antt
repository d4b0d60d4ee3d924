-- Planning lines and clock lines, by what stands where and not by how they are read (Org Syntax,
-- "Planning", "Clocks").
use Rattle.std.specs.Prelude.{◌≡◌, ◌<◌, IsTrue, ℕ, Bool, Some, List, [], ◌∷◌, ◌++◌, codes, length}
use Rattle.std.specs.Char.{is_ascii_digit}
use Rattle.std.specs.List.{AllByRecursion, list_all, prefix_len}
use Rattle.org_splice.specs.Blanks.{is_blank, is_trailing}
use Rattle.org_stamp.specs.Calendar.{Moment}
use Rattle.org_stamp.specs.Stamp.{StampValue, IsStampText, start_of}
use Rattle.org_meta.specs.declared.clock.Running.{Running}
use Rattle.org_meta.specs.declared.clock.Clock.{Clock}
use Rattle.org_meta.specs.declared.clock.Clock.TheVariants.{Open, Closed}
use Rattle.org_meta.specs.Planning.{PlanningEntry, PlanningLine, each_once, entries_text}
use Rattle.org_meta.specs.Clocks.{is_clock_stamp, minutes_between}

-- ---- planning lines

-- its word, blanks, the text of its stamp and blanks
pub record IsEntry (e : PlanningEntry) : Type 0 where
  pub gap_blank : IsTrue (list_all is_blank e.gap)
  pub stamp : IsStampText e.text e.stamp
  pub after_blank : IsTrue (list_all is_blank e.after)

-- The line is its indentation, these entries and its tail. Each word stands at most once. Blanks
-- belong to what stands before them, so the tail begins with none.
pub record IsPlanning (line : List ℕ) (p : PlanningLine) : Type 0 where
  pub bytes : line ≡ p.indentation ++ (entries_text p.entries ++ p.tail)
  pub indentation_blank : IsTrue (list_all is_blank p.indentation)
  pub entries : AllByRecursion IsEntry p.entries
  pub once : IsTrue (each_once p.entries)
  pub tail_trailing : IsTrue (list_all is_trailing p.tail)
  pub tail_whole : prefix_len is_blank p.tail ≡ 0

-- ---- clock lines

-- one byte or more, all of which pass the test
pub record IsSome (test : ℕ → Bool) (l : List ℕ) : Type 0 where
  pub some : 0 < length l
  pub all : IsTrue (list_all test l)

-- an inactive timestamp with one time, of that moment, without repeater and delay
pub record IsClockStamp (text : List ℕ) (moment : Moment) : Type 0 where
  pub value : StampValue
  pub is_text : IsStampText text value
  pub clock : IsTrue (is_clock_stamp value)
  pub starts : start_of value ≡ moment

-- blanks, `CLOCK:`, blanks and such a timestamp
pub record IsClockFront (front : List ℕ) (start : Moment) : Type 0 where
  pub indentation : List ℕ
  pub gap : List ℕ
  pub stamp : List ℕ
  pub is : front ≡ indentation ++ (codes "CLOCK:" ++ (gap ++ stamp))
  pub indentation_blank : IsTrue (list_all is_blank indentation)
  pub gap_blank : IsSome is_blank gap
  pub stamped : IsClockStamp stamp start

-- blanks, `=>`, blanks and `H:MM`
pub record IsDuration (text : List ℕ) : Type 0 where
  pub before : List ℕ
  pub gap : List ℕ
  pub hours : List ℕ
  pub tens : ℕ
  pub ones : ℕ
  pub is : text ≡ before ++ (codes "=>" ++ (gap ++ (hours ++ 58 ∷ tens ∷ ones ∷ [])))
  pub before_blank : IsSome is_blank before
  pub gap_blank : IsSome is_blank gap
  pub digits : IsSome is_ascii_digit hours
  pub minutes : IsTrue (list_all is_ascii_digit (tens ∷ ones ∷ []))

-- `CLOCK: [..]`
pub record IsOpenClock (line : List ℕ) (running : Running) : Type 0 where
  pub front : List ℕ
  pub tail : List ℕ
  pub is : line ≡ front ++ tail
  pub begins : IsClockFront front running.start
  pub head : running.head ≡ length front
  pub tail_trailing : IsTrue (list_all is_trailing tail)

-- `CLOCK: [..]--[..] => H:MM`, where so many minutes lie between the two timestamps
pub record IsClosedClock (line : List ℕ) (minutes : ℕ) : Type 0 where
  pub front : List ℕ
  pub second : List ℕ
  pub duration : List ℕ
  pub tail : List ℕ
  pub start : Moment
  pub end : Moment
  pub is : line ≡ front ++ ((codes "--" ++ (second ++ duration)) ++ tail)
  pub begins : IsClockFront front start
  pub ends : IsClockStamp second end
  pub lasts : IsDuration duration
  pub between : minutes_between start end ≡ Some minutes
  pub tail_trailing : IsTrue (list_all is_trailing tail)

abbrev pub IsClockLine : List ℕ → Clock → Type 0
IsClockLine line (Open running) = IsOpenClock line running
IsClockLine line (Closed minutes) = IsClosedClock line minutes
