-- Clocking in and out: the drawer of clock lines, the line that opens a clock, and the one that is
-- closed (Org Syntax, "Drawers", "Clocks"; Org manual, "Clocking commands").
use Rattle.std.specs.Prelude.{ℕ, Bool, ◌&&◌, if◌then◌else◌, Option, None, Some, Result, MatchResult, Ok, Err, List, [], ◌∷◌, ◌++◌, codes, take}
use Rattle.std.specs.List.{list_any}
use Rattle.std.specs.Option.{option_map, unwrap_or}
use Rattle.org_splice.specs.declared.Span.{Span}
use Rattle.org_splice.specs.declared.edit.Edit.{Edit}
use Rattle.org_stamp.specs.Calendar.{Moment}
use Rattle.org_stamp.specs.Parts.{◌>>=◌}
use Rattle.org_stamp.specs.Stamp.{duration_text}
use Rattle.org_meta.specs.declared.clock.Running.{Running}
use Rattle.org_fault.specs.Faults.{IsWhyNot}
use Rattle.org_fault.specs.declared.fault.Fault.{Fault}
use Rattle.org_fault.specs.declared.refusal.Refusal.{Refusal}
use Rattle.org_fault.specs.declared.refusal.Refusal.TheVariants.{ClockBackwards}
use Rattle.org_meta.specs.Edits.{Rewrites}
use Rattle.org_meta.specs.Moments.{moment_text}
use Rattle.org_meta.specs.Sections.{SectionParts, is_mark, is_end}
use Rattle.org_meta.specs.Clocks.{running_clock, minutes_between, IsOpenAt}

-- ---- in

abbrev pub clock_line : Moment → List ℕ
clock_line now = codes "CLOCK: " ++ moment_text now

abbrev pub is_logbook : List ℕ → Bool
is_logbook l = is_mark (codes ":LOGBOOK:") l

-- a line first in the LOGBOOK drawer, where the lines have one: it begins at the first `:LOGBOOK:`
-- that has a later `:END:`
abbrev pub in_logbook : List ℕ → List (List ℕ) → Option (List (List ℕ))
in_logbook line [] = None
in_logbook line (l ∷ ls) =
    if is_logbook l && list_any is_end ls then Some (l ∷ line ∷ ls)
    else option_map (λ ms. l ∷ ms) (in_logbook line ls)

-- a line first in the LOGBOOK drawer, or in a new one
abbrev pub logged : List ℕ → List (List ℕ) → List (List ℕ)
logged line ls = unwrap_or (in_logbook line ls) (codes ":LOGBOOK:" ∷ line ∷ codes ":END:" ∷ ls)

abbrev pub opened : Moment → SectionParts → SectionParts
opened now parts = record parts { rest = logged (clock_line now) parts.rest }

-- ---- out

-- what takes the place of all that follows the first stamp of an open clock line
abbrev pub closing_text : Moment → ℕ → List ℕ
closing_text now minutes =
    codes "--" ++ (moment_text now ++ (codes " => " ++ duration_text minutes 2))

-- an open clock line that runs for so many minutes, closed; none where the moment is before its
-- start
abbrev pub closed_after : Moment → List ℕ → Option ℕ → Result (List ℕ) Refusal
closed_after now head (Some minutes) = Ok (head ++ closing_text now minutes)
closed_after now head None = Err ClockBackwards

abbrev pub closed_clock : Moment → List ℕ → Option Running → Result (List ℕ) Refusal
closed_clock now line (Some running) =
    closed_after now (take running.head line) (minutes_between running.start now)
closed_clock now line None = Ok line

-- the line, closed where it is an open clock, unless the moment is before its start
abbrev pub closed_line : Moment → List ℕ → Result (List ℕ) Refusal
closed_line now line = closed_clock now line (running_clock line)

-- how many minutes an open clock line has run at a moment, where that isn't before its start
abbrev pub minutes_run : Moment → List ℕ → Option ℕ
minutes_run now line = running_clock line >>= λ running. minutes_between running.start now

-- The edit closes the open clock line at the span, and all other lines stay.
abbrev pub Closes : Moment → List ℕ → Span → Edit → Type 0
Closes now section span edit =
    (before : List (List ℕ)) (line : List ℕ) (after : List (List ℕ))
    → IsOpenAt section span before line after
    → MatchResult (closed_line now line)
    (λ closed. Rewrites edit section (before ++ (closed ∷ after))) (λ why. ⊥)

-- The open clock line at the span isn't closed: the moment is before its start, or it isn't, and
-- there was no memory.
abbrev pub ClosesNot : Moment → List ℕ → Span → Fault Refusal → Type 0
ClosesNot now section span fault =
    (before : List (List ℕ)) (line : List ℕ) (after : List (List ℕ))
    → IsOpenAt section span before line after → IsWhyNot (closed_line now line) fault
