-- Clock lines: what they say, their total, and the first that is open (Org Syntax, "Clocks"; Org
-- manual, "Clocking Work Time").
use Rattle.std.specs.Prelude.{◌≡◌, ℕ, ◌+◌, ◌-◌, min, ◌==◌, nat_eq, Bool, true, false, not, ◌&&◌, if◌then◌else◌, ℤ, pos, negsuc, ◌-ℤ◌, Option, None, Some, is_some, List, [], ◌∷◌, ◌++◌, codes, length, take, drop}
use Rattle.std.specs.List.{starts_with, position, sum_by}
use Rattle.std.specs.Option.{option_map, option_map_or}
use Rattle.std.specs.Char.{is_ascii_digit}
use Rattle.org_splice.specs.Lines.{print_lines, lines_of}
use Rattle.org_splice.specs.declared.Span.{Span}
use Rattle.org_stamp.specs.Calendar.{Moment, minutes_of}
use Rattle.org_stamp.specs.Parts.{◌>>=◌}
use Rattle.org_stamp.specs.Stamp.{StampValue, has_one_time, has_cookies, start_of}
use Rattle.org_stamp.specs.Front.{stamp_at}
use Rattle.org_meta.specs.declared.clock.Running.{Running}
use Rattle.org_meta.specs.declared.clock.Clock.{Clock}
use Rattle.org_meta.specs.declared.clock.Clock.TheVariants.{Open, Closed}
use Rattle.org_splice.specs.Blanks.{is_blank, behind, trimmed_end}

-- ---- lines

-- inactive, with one time, and no repeater or delay
abbrev pub is_clock_stamp : StampValue → Bool
is_clock_stamp s = not s.active && has_one_time s.time && not (has_cookies s)

-- where the stamp at the front of the bytes starts, and the number of its bytes
abbrev pub clock_stamp_at : List ℕ → Option (Moment × ℕ)
clock_stamp_at text =
    stamp_at text >>= λ r. if is_clock_stamp r.0 then Some (start_of r.0, r.1) else None

-- at least one byte passes, and those after them
abbrev pub behind_some : (ℕ → Bool) → List ℕ → Option (List ℕ)
behind_some test text = if is_passing test text then Some (behind test text) else None where
  is_passing : (ℕ → Bool) → List ℕ → Bool
  is_passing test [] = false
  is_passing test (b ∷ bs) = test b

-- what follows the mark
abbrev pub behind_mark : List ℕ → List ℕ → Option (List ℕ)
behind_mark mark text =
    if starts_with nat_eq text mark then Some (drop (length mark) text) else None

-- a colon and two digits
abbrev pub are_minutes : List ℕ → Bool
are_minutes (c ∷ a ∷ b ∷ []) = c == 58 && is_ascii_digit a && is_ascii_digit b
are_minutes text = false

-- what follows blanks, `=>`, blanks and digits
abbrev pub behind_hours : List ℕ → Option (List ℕ)
behind_hours text =
    behind_some is_blank text >>= λ arrow.
    behind_mark (codes "=>") arrow >>= λ gap.
    behind_some is_blank gap >>= λ hours.
    behind_some is_ascii_digit hours

-- blanks, `=>`, blanks, digits, a colon and two digits; what they say doesn't count
abbrev pub is_duration : List ℕ → Bool
is_duration text = option_map_or are_minutes (behind_hours text) false

-- the minutes from the first to the second, unless that lies before the first
abbrev pub minutes_between : Moment → Moment → Option ℕ
minutes_between first second = if_not_negative (minutes_of second -ℤ minutes_of first) where
  if_not_negative : ℤ → Option ℕ
  if_not_negative (pos n) = Some n
  if_not_negative (negsuc n) = None

-- the minutes of a clock that `--`, a second stamp that isn't before the first, and a duration
-- close
abbrev pub closed_minutes : Moment → List ℕ → Option ℕ
closed_minutes start text =
    behind_mark (codes "--") text >>= λ second. clock_stamp_at second >>= λ end.
    if is_duration (drop end.1 second) then minutes_between start end.0 else None

-- what follows the first stamp of a clock line: nothing, or what closes it
abbrev pub clock_from : Moment → ℕ → List ℕ → Option Clock
clock_from start head text =
    if length text == 0 then Some (Open (record { start = start; head = head }))
    else (closed_minutes start text >>= λ minutes. Some (Closed minutes))

-- the clock of a line: `CLOCK:`, blanks, a stamp and what follows it; blanks round the line don't
-- count
abbrev pub clock_of : List ℕ → Option Clock
clock_of line =
    let body = trimmed_end line in
    behind_mark (codes "CLOCK:") (behind is_blank body) >>= λ after.
    behind_some is_blank after >>= λ text.
    clock_stamp_at text >>= λ start.
    clock_from start.0 (length body - length text + start.1) (drop start.1 text)

-- how many bytes of its line an open clock takes up to the end of its stamp
abbrev pub head_of : Clock → ℕ
head_of (Open running) = running.head
head_of (Closed minutes) = 0

-- the clock of an open clock line
abbrev pub running_of : Option Clock → Option Running
running_of (Some (Open running)) = Some running
running_of _ = None

abbrev pub running_clock : List ℕ → Option Running
running_clock line = running_of (clock_of line)

abbrev pub is_open : List ℕ → Bool
is_open line = is_some (running_clock line)

-- the minutes of a closed clock line
abbrev pub minutes_in : List ℕ → ℕ
minutes_in line = minutes_of_clock (clock_of line) where
  minutes_of_clock : Option Clock → ℕ
  minutes_of_clock (Some (Closed minutes)) = minutes
  minutes_of_clock _ = 0

-- the minutes of all closed clock lines, at most 2^64 - 1
abbrev pub total : List (List ℕ) → ℕ
total lines = min (sum_by minutes_in lines) 18_446_744_073_709_551_615

-- ---- the running clock

-- where line i stands, its newline included
abbrev pub line_span : List (List ℕ) → ℕ → Span
line_span lines i =
    record {
      start = length (print_lines (take i lines));
      end = length (print_lines (take (i + 1) lines));
    }

-- the first open clock line
abbrev pub open_line : List (List ℕ) → Option Span
open_line lines = option_map (line_span lines) (position is_open lines)

-- The line is an open clock after the lines `before`, and the span is its own.
pub record IsOpenAt (section : List ℕ) (span : Span) (before : List (List ℕ)) (line : List ℕ)
    (after : List (List ℕ)) : Type 0 where
  pub lines : lines_of section ≡ before ++ (line ∷ after)
  pub start : span.start ≡ length (print_lines before)
  pub end : span.end ≡ length (print_lines before) + length line + 1
  pub runs : is_open line ≡ true

-- An open clock line stands at the span.
pub record HasOpenAt (section : List ℕ) (span : Span) : Type 0 where
  pub before : List (List ℕ)
  pub line : List ℕ
  pub after : List (List ℕ)
  pub is : IsOpenAt section span before line after
