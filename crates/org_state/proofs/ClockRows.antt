-- The definitions of clocks on worked examples.
use Rattle.std.proofs.Common.{◌≡◌, ℕ, List, [], ◌∷◌, ◌++◌, codes, refl}
use Rattle.std.specs.Prelude.{Option, None, Some, Result, Ok, Err, pos}
use Rattle.std.specs.Option.{option_map}
use Rattle.std.specs.Result.{result_map_both}
use Rattle.std.specs.Fmt.{digits}
use Rattle.jiff_core.specs.Calendar.{days_of_years, days_of_months, day_count, days_from_civil, weekday_number}
use Rattle.org_stamp.specs.Calendar.{Moment, civil_day, day_number, at_minute, weekday_of}
use Rattle.org_outline.specs.declared.paths.PathFault.TheVariants as path
use Rattle.org_outline.specs.declared.steps.Step.{Step}
use Rattle.org_outline.specs.States.{Keywords}
use Rattle.org_outline.specs.Tree.{print, tree}
use Rattle.org_fault.specs.declared.refusal.Refusal.{Refusal}
use Rattle.org_fault.specs.declared.refusal.Refusal.TheVariants.{NotUnique, ClockBackwards}
use Rattle.org_state.specs.Clock.{running_in, with_opened, with_closed, switched, switched_at, clocked_minutes, clocked_at}

-- a line of these characters
abbrev line : List ℕ → List ℕ
line l = l ++ 10 ∷ []

states : Keywords
states = record { active = codes "TODO" ∷ []; done = codes "DONE" ∷ [] }

-- the days of these rows, counted once: their count goes over all years before
to_2026 : days_of_years 12_026 ≡ 4_392_407
unfolding days_of_years
to_2026 = refl

to_1970 : days_of_years 11_970 ≡ 4_371_953
unfolding days_of_years
to_1970 = refl

july : day_number (civil_day 2026 7 1) ≡ pos 20_635
unfolding days_of_months day_count days_from_civil
july = rw (to_2026, to_1970) refl

last_of_june : day_number (civil_day 2026 6 30) ≡ pos 20_634
unfolding days_of_months day_count days_from_civil
last_of_june = rw (to_2026, to_1970) refl

june : day_number (civil_day 2026 6 1) ≡ pos 20_605
unfolding days_of_months day_count days_from_civil
june = rw (to_2026, to_1970) refl

wednesday : weekday_of (civil_day 2026 7 1) ≡ 2
unfolding weekday_number
wednesday = rw july refl

-- minutes of it
ten : Moment
ten = at_minute (civil_day 2026 7 1) 600

half_past_eleven : Moment
half_past_eleven = at_minute (civil_day 2026 7 1) 690

abbrev opened_text : Moment → ℕ → List ℕ → List ℕ
opened_text now i text = print (with_opened now i (tree text))

abbrev closed_text : Moment → ℕ → List ℕ → Result (List ℕ) Refusal
closed_text now i text = result_map_both print (λ why. why) (with_closed now i (tree text))

-- clocked in at heading i where a clock runs at heading `from`
abbrev switched_text : Moment → ℕ → ℕ → List ℕ → Result (Option (List ℕ)) Refusal
switched_text now from i text = result_map_both (option_map print) (λ why. why) (switched now from (tree text) i)

-- ---- in, and out

at_a : List ℕ
at_a = line (codes "* A") ++ line (codes ":LOGBOOK:") ++ line (codes "CLOCK: [2026-07-01 Wed 10:00]") ++ line (codes ":END:")

a_opened : opened_text ten 0 (line (codes "* A")) ≡ at_a
unfolding ten at_a
a_opened = rw wednesday refl

a_runs : running_in (tree at_a) ≡ Some (record { heading = 0; line = record { start = 14; end = 44 } })
unfolding at_a
a_runs = refl

a_done : List ℕ
a_done =
    line (codes "* A") ++ line (codes ":LOGBOOK:") ++ line (codes "CLOCK: [2026-07-01 Wed 10:00]--[2026-07-01 Wed 11:30] =>  1:30") ++ line (codes ":END:")

a_closed : closed_text half_past_eleven 0 at_a ≡ Ok a_done
unfolding half_past_eleven at_a a_done digits
a_closed = rw (july, wednesday) refl

a_clocked : clocked_minutes (tree a_done) 0 ≡ 90
unfolding a_done
a_clocked = rw july refl

none_runs : running_in (tree a_done) ≡ None
unfolding a_done
none_runs = rw july refl

at_b : List ℕ
at_b = line (codes "* B") ++ line (codes ":LOGBOOK:") ++ line (codes "CLOCK: [2026-07-01 Wed 11:30]") ++ line (codes ":END:")

b_opened : opened_text half_past_eleven 0 (line (codes "* B")) ≡ at_b
unfolding half_past_eleven at_b
b_opened = rw wednesday refl

b_backwards : closed_text (at_minute (civil_day 2026 7 1) 689) 0 at_b ≡ Err ClockBackwards
unfolding at_b
b_backwards = rw july refl

b_closed_at_once : closed_text half_past_eleven 0 at_b
    ≡ Ok (line (codes "* B") ++ line (codes ":LOGBOOK:") ++ line (codes "CLOCK: [2026-07-01 Wed 11:30]--[2026-07-01 Wed 11:30] =>  0:00") ++ line (codes ":END:"))
unfolding half_past_eleven at_b digits
b_closed_at_once = rw (july, wednesday) refl

-- first in the drawer that is there; the planning line stays first
in_its_drawer : opened_text ten 0 (line (codes "* A") ++ line (codes "DEADLINE: soon") ++ line (codes "x") ++ line (codes ":Logbook:") ++ line (codes "- note") ++ line (codes ":end:"))
    ≡ line (codes "* A") ++ line (codes "DEADLINE: soon") ++ line (codes "x") ++ line (codes ":Logbook:") ++ line (codes "CLOCK: [2026-07-01 Wed 10:00]") ++ line (codes "- note") ++ line (codes ":end:")
unfolding ten
in_its_drawer = rw wednesday refl

-- a drawer that doesn't end is none
no_end : opened_text ten 0 (line (codes "* A") ++ line (codes ":LOGBOOK:"))
    ≡ line (codes "* A") ++ line (codes ":LOGBOOK:") ++ line (codes "CLOCK: [2026-07-01 Wed 10:00]") ++ line (codes ":END:") ++ line (codes ":LOGBOOK:")
unfolding ten
no_end = rw wednesday refl

-- ---- in, where one runs

two : List ℕ
two = line (codes "* A") ++ line (codes "CLOCK: [2026-07-01 Wed 10:00]") ++ line (codes "* B")

to_the_other : switched_text half_past_eleven 0 1 two
    ≡ Ok (Some (line (codes "* A") ++ line (codes "CLOCK: [2026-07-01 Wed 10:00]--[2026-07-01 Wed 11:30] =>  1:30") ++ at_b))
unfolding half_past_eleven two at_b weekday_number digits
to_the_other = rw (july, wednesday) refl

-- the heading itself: nothing changes, whatever the moment
to_itself : switched_text (at_minute (civil_day 2026 7 1) 0) 0 0 two ≡ Ok None
unfolding two
to_itself = refl

back_in_time : switched_text (at_minute (civil_day 2026 7 1) 599) 0 1 two ≡ Err ClockBackwards
unfolding two
back_in_time = rw july refl

-- the path is asked first
path_first : switched_at (at_minute (civil_day 2026 7 1) 599) 0 (tree two) (Err path.NotUnique) ≡ Err NotUnique
unfolding two
path_first = refl

-- ---- clock lines

-- outside a drawer, indented, with a carriage return: what follows the timestamp goes; of two the
-- first counts
carriage_return : List ℕ
carriage_return =
    line (codes "* A") ++ line (codes "** B") ++ line (codes "  CLOCK: [2026-06-30 10:00] " ++ 9 ∷ 13 ∷ []) ++ line (codes "CLOCK: [2026-07-01 Wed 09:00]")

first_of_two : running_in (tree carriage_return) ≡ Some (record { heading = 1; line = record { start = 9; end = 40 } })
unfolding carriage_return
first_of_two = refl

rest_of_the_line_goes : closed_text (at_minute (civil_day 2026 7 1) 660) 1 carriage_return
    ≡ Ok (line (codes "* A") ++ line (codes "** B") ++ line (codes "  CLOCK: [2026-06-30 10:00]--[2026-07-01 Wed 11:00] => 25:00") ++ line (codes "CLOCK: [2026-07-01 Wed 09:00]"))
unfolding carriage_return digits
rest_of_the_line_goes = rw (last_of_june, july, wednesday) refl

hours_above_99 : closed_text (at_minute (civil_day 2026 7 1) 5) 0 (line (codes "* A") ++ line (codes "CLOCK: [2026-06-01 Mon 00:00]"))
    ≡ Ok (line (codes "* A") ++ line (codes "CLOCK: [2026-06-01 Mon 00:00]--[2026-07-01 Wed 00:05] => 720:05"))
unfolding digits
hours_above_99 = rw (june, july, wednesday) refl

-- not before the first heading
before_headings : running_in (tree (line (codes "CLOCK: [2026-07-01 Wed 10:00]") ++ line (codes "* A"))) ≡ None
before_headings = refl

in_small_letters : running_in (tree (line (codes "* A") ++ line (codes "clock: [2026-07-01 Wed 10:00]"))) ≡ None
in_small_letters = refl

-- ---- the time clocked

-- the written durations aren't read, and what lies below counts
below_too : clocked_minutes (tree (line (codes "* A") ++ line (codes "CLOCK: [2026-07-01 Wed 10:00]--[2026-07-01 Wed 11:30] =>  9:99")
    ++ line (codes "** B") ++ line (codes "CLOCK: [2026-07-01 Wed 12:00]--[2026-07-01 Wed 12:05] => 0:05"))) 0
    ≡ 95
below_too = rw july refl

-- what runs backwards is text: it counts nothing, and runs nowhere
backwards : List ℕ
backwards = line (codes "* A") ++ line (codes "CLOCK: [2026-07-01 Wed 11:00]--[2026-07-01 Wed 10:59] =>  0:01")

backwards_is_text : clocked_minutes (tree backwards) 0 ≡ 0
unfolding backwards
backwards_is_text = rw july refl

backwards_runs_not : running_in (tree backwards) ≡ None
unfolding backwards
backwards_runs_not = rw july refl

many_hours : clocked_minutes (tree (line (codes "* A") ++ line (codes "CLOCK: [2026-06-01 10:00]--[2026-07-01 10:00] => 720:00 " ++ 13 ∷ []))) 0 ≡ 43_200
many_hours = rw (june, july) refl

-- a step without a number
abbrev only : List ℕ → Step
only title = record { title = title; number = None }

doubled_title : clocked_at states (only (codes "A") ∷ []) (tree (line (codes "* TODO A") ++ line (codes "* A"))) ≡ Err path.NotUnique
unfolding states
doubled_title = refl

no_such_title : clocked_at states (only (codes "B") ∷ []) (tree (line (codes "* A"))) ≡ Err path.NotFound
unfolding states
no_such_title = refl
