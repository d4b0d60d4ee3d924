-- Which command a line is, and what a reader of its fields answers. The fields of a line are
-- separated by tabs; its first field is the command's word.
use Rattle.std.specs.Prelude.{ℕ, suc, ◌+◌, ◌-◌, ◌*◌, ◌^◌, ◌<◌, ◌≤◌, ⊤, pos, Bool, true, false, not, ◌==◌, ◌&&◌, nat_lt, nat_le, List, [], ◌∷◌, ◌++◌, length, map, fold, take, drop, slice_index, decimal, Option, None, Some, codes, if◌then◌else◌, ◌≡◌, Result, Ok, Err}
use Rattle.std.specs.Char.{is_ascii_digit}
use Rattle.std.specs.List.{list_all, slice_split, join_with_byte}
use Rattle.std.specs.Option.{option_map, option_and_then}
use Rattle.std.specs.Str.{bytes_eq, is_utf8}
use Rattle.jiff_core.specs.Calendar.{days_in_month}
use Rattle.org_disk.specs.Names.{is_file_name}
use Rattle.org_outline.specs.declared.moves.Place.{Place}
use Rattle.org_outline.specs.declared.moves.Place.TheVariants.{First, Last}
use Rattle.org_outline.specs.declared.steps.Step.{Step}
use Rattle.org_capture.specs.declared.target.Target.{Target}
use Rattle.org_capture.specs.declared.target.Target.TheVariants.{Top, Head, Path, Date}
use Rattle.org_stamp.specs.Calendar.{Moment, at_minute, civil_day}
use Rattle.org_commands.specs.declared.command.Command.{Command}
use Rattle.org_commands.specs.declared.command.Command.TheVariants.{Change, Ask, Settle}
use Rattle.org_commands.specs.declared.command.Change.TheVariants.{Capture, Refile, Todo, ClockIn, ClockOut, Edit, Archive}
use Rattle.org_commands.specs.declared.command.Question.TheVariants.{Time, Show}
use Rattle.org_fault.specs.declared.fault.Fault.{Fault}
use Rattle.org_serve.specs.declared.fault.BadLine.{BadLine}
use Rattle.org_fault.specs.declared.fault.Fault.TheVariants.{Refused, OutOfMemory}

-- what a letter after a backslash stands for: `\n` a newline, `\t` a tab, `\\` a backslash, `\s` a
-- slash
abbrev pub escape : ℕ → Option ℕ
escape b =
    if b == 110 then Some 10
    else (if b == 116 then Some 9
    else (if b == 92 then Some 92 else (if b == 115 then Some 47 else None)))

-- the bytes that the rest of a field stands for; true after a backslash
abbrev pub unescaped_from : Bool → List ℕ → Option (List ℕ)
unescaped_from false [] = Some []
unescaped_from true [] = None
unescaped_from false (b ∷ bytes) =
    if b == 92 then unescaped_from true bytes
    else option_map (λ text. b ∷ text) (unescaped_from false bytes)
unescaped_from true (b ∷ bytes) =
    option_and_then (λ c. option_map (λ text. c ∷ text) (unescaped_from false bytes)) (escape b)

-- the bytes that a field stands for
abbrev pub unescaped : List ℕ → Option (List ℕ)
unescaped field = unescaped_from false field

-- a field that stands for these bytes: newlines, tabs, backslashes and slashes are escaped
abbrev pub escaped : List ℕ → List ℕ
escaped [] = []
escaped (b ∷ bytes) =
    let later = escaped bytes in
    if b == 10 then 92 ∷ 110 ∷ later
    else (if b == 9 then 92 ∷ 116 ∷ later
    else (if b == 92 then 92 ∷ 92 ∷ later else (if b == 47 then 92 ∷ 115 ∷ later else b ∷ later)))

-- FILE
unfoldable pub file_of : List ℕ → Option (List ℕ)
file_of field =
    option_and_then (λ name. if is_utf8 name && is_file_name name then Some name else None)
    (unescaped field)

-- the number that one to this many digits write
abbrev pub digits_of : ℕ → List ℕ → Option ℕ
digits_of most field =
    if nat_le 1 (length field) && nat_le (length field) most && list_all is_ascii_digit field
    then Some (fold (λ n b. 10 * n + (b - 48)) 0 field)
    else None

-- the number of a step: one to nine digits, of which the first isn't 0
abbrev pub number_of : List ℕ → Option ℕ
number_of field = if slice_index field 0 == 48 then None else digits_of 9 field

-- where the `#` of the first `\#` stands, at the earliest at `at`; true after a backslash that
-- begins an escape
abbrev pub mark_from : Bool → ℕ → List ℕ → Option ℕ
mark_from is_escaped at [] = None
mark_from is_escaped at (b ∷ bytes) =
    if is_escaped && b == 35 then Some at
    else mark_from (not is_escaped && b == 92) (suc at) bytes

-- a step with a mark there: its title stands before the mark, its number after it
abbrev pub step_at : List ℕ → Option ℕ → Option Step
step_at field None =
    option_map (λ title. let step : Step = record { title = title; number = None } in step)
    (unescaped field)
step_at field (Some at) =
    option_and_then (λ title. option_map (λ n. let step : Step = record {
      title = title;
      number = Some n;
    } in step)
    (number_of (drop (at + 1) field)))
    (unescaped (take (at - 1) field))

-- a step of a path: a title, or a title, `\#` and a number
unfoldable pub step_of : List ℕ → Option Step
step_of field = step_at field (mark_from false 0 field)

-- the steps that fields stand for, one each
abbrev pub steps_in : List (List ℕ) → Option (List Step)
steps_in [] = Some []
steps_in (field ∷ fields) =
    option_and_then (λ step. option_map (λ steps. step ∷ steps) (steps_in fields)) (step_of field)

-- PATH: steps with slashes between them. It is split at the slashes before escapes are read, so
-- `\s` is a slash within a title.
unfoldable pub path_of : List ℕ → Option (List Step)
path_of field = steps_in (slice_split (λ b. b == 47) field)

-- a field that stands for a step
abbrev pub number_field : Option ℕ → List ℕ
number_field None = []
number_field (Some n) = 92 ∷ 35 ∷ decimal n

abbrev pub step_field : Step → List ℕ
step_field step = escaped step.title ++ number_field step.number

-- a step without a number, or with one of at most nine digits, from 1 on
abbrev pub IsWritten : Option ℕ → Type 0
IsWritten None = ⊤
IsWritten (Some n) = (1 ≤ n) × (n < 10 ^ 9)

-- a field that stands for the path of these steps
abbrev pub path_field : List Step → List ℕ
path_field path = join_with_byte 47 (map step_field path)

-- a field begins with this word
abbrev pub begins_with : List ℕ → List ℕ → Bool
begins_with word field = bytes_eq (take (length word) field) word

-- TARGET: `top`, `head:` and a step, `path:` PATH, `date` or `date:` PATH
unfoldable pub target_of : List ℕ → Option Target
target_of field =
    if bytes_eq field (codes "top") then Some Top
    else if bytes_eq field (codes "date") then Some (Date [])
    else if begins_with (codes "head:") field then option_map Head (step_of (drop 5 field))
    else if begins_with (codes "path:") field then option_map Path (path_of (drop 5 field))
    else if begins_with (codes "date:") field then option_map Date (path_of (drop 5 field))
    else None

-- PLACE: `first` or `last`
unfoldable pub place_of : List ℕ → Option Place
place_of field =
    if bytes_eq field (codes "first") then Some First
    else if bytes_eq field (codes "last") then Some Last
    else None

-- a zero stands in front of other bytes
abbrev pub leads_with_zero : List ℕ → Bool
leads_with_zero (a ∷ b ∷ more) = a == 48
leads_with_zero _ = false

-- AT: a number of at most eight digits, without zeros in front
unfoldable pub position_of : List ℕ → Option ℕ
position_of field = if leads_with_zero field then None else digits_of 8 field

abbrev pub digit_of : ℕ → Option ℕ
digit_of b = if nat_le 48 b && nat_le b 57 then Some (b - 48) else None

-- two digits
abbrev pub pair_of : ℕ → ℕ → Option ℕ
pair_of a b = option_and_then (λ x. option_map (λ y. 10 * x + y) (digit_of b)) (digit_of a)

-- four digits
abbrev pub year_of : ℕ → ℕ → ℕ → ℕ → Option ℕ
year_of a b c d = option_and_then (λ x. option_map (λ y. 100 * x + y) (pair_of c d)) (pair_of a b)

-- `YYYY-MM-DD`: the year, the month and the day
abbrev pub date_of : List ℕ → Option (ℕ × ℕ × ℕ)
date_of (a ∷ b ∷ c ∷ d ∷ e ∷ f ∷ g ∷ h ∷ i ∷ j ∷ []) =
    if e == 45 && h == 45
    then option_and_then (λ y. option_and_then (λ m. option_map (λ n. (y, m, n)) (pair_of i j))
    (pair_of f g))
    (year_of a b c d)
    else None
date_of _ = None

-- a space and `HH:MM`: the hour and the minute
abbrev pub time_of : List ℕ → Option (ℕ × ℕ)
time_of (a ∷ b ∷ c ∷ d ∷ e ∷ f ∷ []) =
    if a == 32 && d == 58
    then option_and_then (λ h. option_map (λ n. (h, n)) (pair_of e f)) (pair_of b c)
    else None
time_of _ = None

-- the calendar has the date, in a year from 0001 to 9999
abbrev pub is_day : ℕ → ℕ → ℕ → Bool
is_day y m d =
    nat_le 1 y
    && nat_le y 9999
    && nat_le 1 m
    && nat_le m 12
    && nat_le 1 d
    && nat_le d (days_in_month (pos y) m)

-- a moment, where there is such a one
abbrev pub moment_at : ℕ × ℕ × ℕ → ℕ × ℕ → Option Moment
moment_at (y, m, d) (h, n) =
    if is_day y m d && nat_lt h 24 && nat_lt n 60
    then Some (at_minute (civil_day y m d) (h * 60 + n))
    else None

-- MOMENT: `YYYY-MM-DD HH:MM`
unfoldable pub moment_of : List ℕ → Option Moment
moment_of field =
    option_and_then (λ date. option_and_then (λ time. moment_at date time)
    (time_of (drop 10 field)))
    (date_of (take 10 field))

-- `show` FILE
unfoldable pub show_of : List ℕ → Option Command
show_of file = option_map (λ f. Ask (Show f)) (file_of file)

-- `capture` FILE TARGET PLACE MOMENT TEMPLATE INITIAL
unfoldable pub capture_of : List ℕ → List ℕ → List ℕ → List ℕ → List ℕ → List ℕ → Option Command
capture_of file target place moment template initial =
    option_and_then (λ f. option_and_then (λ t. option_and_then (λ p.
    option_and_then (λ m. option_and_then (λ e. option_map (λ i.
    Change (Capture
    (record { file = f; target = t; place = p; moment = m; template = e; initial = i })))
    (unescaped initial)) (unescaped template)) (moment_of moment))
    (place_of place)) (target_of target)) (file_of file)

-- `refile` FILE PATH FILE PATH PLACE
unfoldable pub refile_of : List ℕ → List ℕ → List ℕ → List ℕ → List ℕ → Option Command
refile_of file path to_file to_path place =
    option_and_then (λ f. option_and_then (λ p.
    option_and_then (λ g. option_and_then (λ q. option_map (λ l.
    Change (Refile (record { file = f; path = p; to_file = g; to_path = q; place = l })))
    (place_of place)) (path_of to_path)) (file_of to_file))
    (path_of path)) (file_of file)

-- `todo` FILE PATH STATE MOMENT
unfoldable pub todo_of : List ℕ → List ℕ → List ℕ → List ℕ → Option Command
todo_of file path state moment =
    option_and_then (λ f. option_and_then (λ p. option_and_then (λ s. option_map (λ m.
    Change (Todo (record { file = f; path = p; state = s; moment = m })))
    (moment_of moment)) (unescaped state)) (path_of path)) (file_of file)

-- `edit` FILE AT OLD NEW
unfoldable pub edit_of : List ℕ → List ℕ → List ℕ → List ℕ → Option Command
edit_of file at old new =
    option_and_then (λ f. option_and_then (λ a. option_and_then (λ o. option_map (λ n.
    Change (Edit (record { file = f; at = a; old = o; new = n })))
    (unescaped new)) (unescaped old)) (position_of at)) (file_of file)

-- `archive` FILE PATH MOMENT
unfoldable pub archive_of : List ℕ → List ℕ → List ℕ → Option Command
archive_of file path moment =
    option_and_then (λ f. option_and_then (λ p. option_map (λ m.
    Change (Archive (record { file = f; path = p; moment = m })))
    (moment_of moment)) (path_of path)) (file_of file)

-- `clock-in` FILE PATH MOMENT
unfoldable pub clock_in_of : List ℕ → List ℕ → List ℕ → Option Command
clock_in_of file path moment =
    option_and_then (λ f. option_and_then (λ p. option_map (λ m.
    Change (ClockIn (record { file = f; path = p; moment = m })))
    (moment_of moment)) (path_of path)) (file_of file)

-- `clock-out` MOMENT
unfoldable pub clock_out_of : List ℕ → Option Command
clock_out_of moment = option_map (λ m. Change (ClockOut m)) (moment_of moment)

-- `time` FILE PATH
unfoldable pub clocked_of : List ℕ → List ℕ → Option Command
clocked_of file path =
    option_and_then (λ f. option_map (λ p. Ask (Time f p)) (path_of path)) (file_of file)

-- a line of these fields; any other word or number of fields is no command
abbrev pub command_of_fields : List (List ℕ) → Option Command
command_of_fields (word ∷ []) = if bytes_eq word (codes "settle") then Some Settle else None
command_of_fields (word ∷ field ∷ []) =
    if bytes_eq word (codes "show") then show_of field
    else if bytes_eq word (codes "clock-out") then clock_out_of field
    else None
command_of_fields (word ∷ file ∷ path ∷ []) =
    if bytes_eq word (codes "time") then clocked_of file path else None
command_of_fields (word ∷ file ∷ path ∷ moment ∷ []) =
    if bytes_eq word (codes "archive") then archive_of file path moment
    else if bytes_eq word (codes "clock-in") then clock_in_of file path moment
    else None
command_of_fields (word ∷ file ∷ path ∷ state ∷ moment ∷ []) =
    if bytes_eq word (codes "todo") then todo_of file path state moment
    else if bytes_eq word (codes "edit") then edit_of file path state moment
    else None
command_of_fields (word ∷ file ∷ path ∷ to_file ∷ to_path ∷ place ∷ []) =
    if bytes_eq word (codes "refile") then refile_of file path to_file to_path place else None
command_of_fields (word ∷ file ∷ target ∷ place ∷ moment ∷ template ∷ initial ∷ []) =
    if bytes_eq word (codes "capture") then capture_of file target place moment template initial
    else None
command_of_fields _ = None

-- the command that a line is, without its newline
abbrev pub command_of : List ℕ → Option Command
command_of line = command_of_fields (slice_split (λ b. b == 9) line)

-- What was read, as it is seen by view, is what the bytes are; or BadLine where they are nothing.
-- Memory may be refused.
abbrev pub ParsesAs : {X Y : Type 0} → (X → Y) → Result X (Fault BadLine) → Option Y → Type 0
ParsesAs view (Ok x) value = value ≡ Some (view x)
ParsesAs view (Err (Refused _)) value = value ≡ None
ParsesAs view (Err OutOfMemory) value = Unit {0}

-- the same of what was read as it is
abbrev pub Parses : {X : Type 0} → Result X (Fault BadLine) → Option X → Type 0
Parses result value = ParsesAs (λ x. x) result value
