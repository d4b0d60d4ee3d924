-- A command that a line is read as can be spelled.
use Rattle.std.proofs.Common.{◌≡◌, ℕ, zero, suc, ◌+◌, ◌-◌, ◌*◌, ◌^◌, ◌<◌, ◌≤◌, ◌==◌, ◌&&◌, Bool, true, false, List, [], ◌∷◌, length, codes, fold, take, drop, Option, None, Some, refl, ap, subst, arith, inl, inr}
use Rattle.std.proofs.lemmas.Grind.{common_steps}
use Rattle.std.specs.Prelude.{nat_le, nat_lt, pos, if◌then◌else◌}
use Rattle.std.specs.Char.{is_ascii_digit}
use Rattle.std.specs.List.{list_all, slice_split}
use Rattle.std.specs.Option.{option_and_then, option_map}
use Rattle.std.specs.Str.{bytes_eq, is_utf8}
use Rattle.std.proofs.Math.Nat.{pow-succ'}
use Rattle.std.proofs.lemmas.Bool.{cases_Bool}
use Rattle.std.proofs.lemmas.Bool.Decides.{nat_tests}
use Rattle.std.proofs.lemmas.List.Splits.{length-slice_split}
use Rattle.jiff_core.specs.Calendar.{days_in_month}
use Rattle.org_disk.specs.Names.{is_file_name}
use Rattle.org_outline.specs.declared.steps.Step.{Step}
use Rattle.org_capture.specs.declared.target.Target.{Target}
use Rattle.org_capture.specs.declared.target.Target.TheVariants.{Top, Head, Path, Date}
use Rattle.org_stamp.specs.Calendar.{Moment, at_minute, civil_day}
use Rattle.org_commands.specs.declared.command.Command.{Command}
use Rattle.org_commands.specs.declared.command.Command.TheVariants.{Change, Ask, Settle}
use Rattle.org_commands.specs.declared.command.Change.TheVariants.{ClockOut}
use Rattle.org_commands.specs.declared.command.Question.TheVariants.{Show}
use Rattle.org_serve.specs.Grammar.{IsWritten, unescaped, file_of, digits_of, number_of, mark_from, step_at, step_of, steps_in, path_of, begins_with, target_of, place_of, leads_with_zero, position_of, date_of, time_of, is_day, moment_at, moment_of, show_of, capture_of, refile_of, todo_of, edit_of, archive_of, clock_in_of, clock_out_of, clocked_of, command_of, command_of_fields}
use Rattle.org_serve.specs.Spelling.{IsFile, AreSteps, IsPath, IsMoment, IsPosition, IsTarget, IsSpellable}
use Rattle.org_splice.proofs.Ends.{both}

-- ---- what an option that has a value was made of

some_is : {A : Type 0} (x y : A) → Some x ≡ Some y → x ≡ y
some_is x y e = cc

then_some : {A B : Type 0} (f : A → Option B) (o : Option A) (y : B) → option_and_then f o ≡ Some y → (x : A) × (o ≡ Some x) × (f x ≡ Some y)
then_some f None y e = absurd cc
then_some f (Some x) y e = (x, refl, e)

map_some : {A B : Type 0} (f : A → B) (o : Option A) (y : B) → option_map f o ≡ Some y → (x : A) × (o ≡ Some x) × (f x ≡ y)
map_some f None y e = absurd cc
map_some f (Some x) y e = (x, refl, some_is (f x) y e)

-- the value of a test that holds
tested : {A : Type 0} (b : Bool) (x y : A) → (if b then Some x else None) ≡ Some y → (b ≡ true) × (x ≡ y)
tested true x y e = (refl, some_is x y e)
tested false x y e = absurd cc

untested : {A : Type 0} (b : Bool) (o : Option A) (y : A) → (if b then None else o) ≡ Some y → (b ≡ false) × (o ≡ Some y)
untested true o y e = absurd cc
untested false o y e = (refl, e)

-- one of two readings
chosen : {A : Type 0} (b : Bool) (o p : Option A) (y : A) (P : Type 0) → (o ≡ Some y → P) → (p ≡ Some y → P) → (if b then o else p) ≡ Some y → P
chosen true o p y P f g e = f e
chosen false o p y P f g e = g e

never : {A : Type 0} (y : A) (P : Type 0) → None ≡ Some y → P
never y P e = absurd cc

-- ---- fields

file_is : (field name : List ℕ) → file_of field ≡ Some name → IsFile name
unfolding file_of
file_is field name e =
    let text = then_some (λ name. if is_utf8 name && is_file_name name then Some name else None) (unescaped field) name e in
    let test = tested (is_utf8 text.0 && is_file_name text.0) text.0 name text.2 in
    let t = both (is_utf8 text.0) (is_file_name text.0) test.0 in
    let is : IsFile text.0 = record { utf8 = t.0; allowed = t.1 } in
    subst IsFile test.1 is

abbrev more : ℕ → ℕ → ℕ
more n b = 10 * n + (b - 48)

below : (k n d b : ℕ) → n < 10 ^ k → d ≡ b - 48 → is_ascii_digit b ≡ true → 10 * n + d < 10 ^ suc k
below k n d b low is digit = grind (arith, common_steps)

digits_below : (field : List ℕ) (k n : ℕ) → n < 10 ^ k → list_all is_ascii_digit field ≡ true → fold more n field < 10 ^ (k + length field)
digits_below [] k n low all = let same : k + 0 ≡ k = omega arith in rw same low
digits_below (b ∷ field) k n low all =
    let t = both (is_ascii_digit b) (list_all is_ascii_digit field) all in
    let same : k + suc (length field) ≡ suc k + length field = omega arith in
    rw same (digits_below field (suc k) (more n b) (below k n (b - 48) b low refl t.0) t.1)

digits_rise : (field : List ℕ) (n : ℕ) → n ≤ fold more n field
digits_rise [] n = omega arith
digits_rise (b ∷ field) n = let later = digits_rise field (more n b) in omega (arith, later)

grows : (a b : ℕ) → a ≤ b → 10 ^ a ≤ 10 ^ b
grows a zero le = let none : a ≡ 0 = omega arith in rw none (omega arith)
grows a (suc b) le =
    let tenfold : 10 ^ suc b ≡ 10 * 10 ^ b = pow-succ' 10 b in
    elim (cases_Bool (nat_le a b)) [
      | inl low ↦ let more = grows a b (grind (arith, nat_tests, low)) in omega (arith, more, tenfold)
      | inr high ↦ let same : a ≡ suc b = grind (arith, nat_tests, high) in rw same (omega arith)
    ]

record IsDigits (most : ℕ) (field : List ℕ) (n : ℕ) : Type 0 where
  some : 1 ≤ length field
  value : fold more 0 field ≡ n
  high : n < 10 ^ most
  digits : list_all is_ascii_digit field ≡ true

digits_are : (most : ℕ) (field : List ℕ) (n : ℕ) → digits_of most field ≡ Some n → IsDigits most field n
digits_are most field n e =
    let test = tested (nat_le 1 (length field) && nat_le (length field) most && list_all is_ascii_digit field) (fold more 0 field) n e in
    let t = both (nat_le 1 (length field) && nat_le (length field) most) (list_all is_ascii_digit field) test.0 in
    let u = both (nat_le 1 (length field)) (nat_le (length field) most) t.0 in
    let few : length field ≤ most = grind (arith, nat_tests, u.1) in
    let low = digits_below field 0 0 (omega arith) t.1 in
    let within = grows (0 + length field) most (omega (arith, few)) in
    record { some = grind (arith, nat_tests, u.0); value = test.1; high = omega (arith, low, within, test.1); digits = t.1 }

digit_high : (b : ℕ) → is_ascii_digit b ≡ true → 48 ≤ b
digit_high b digit = grind arith

first_high : (b : ℕ) (field : List ℕ) → is_ascii_digit b ≡ true → (b == 48) ≡ false → 1 ≤ fold more 0 (b ∷ field)
first_high b field digit other = grind (arith, common_steps, nat_tests, digit_high, digits_rise, more)

number_is : (field : List ℕ) (n : ℕ) → number_of field ≡ Some n → IsWritten (Some n)
number_is [] n e = grind (arith, common_steps)
number_is (b ∷ field) n e =
    let test = untested (b == 48) (digits_of 9 (b ∷ field)) n e in
    let d = digits_are 9 (b ∷ field) n test.1 in
    let digit = (both (is_ascii_digit b) (list_all is_ascii_digit field) d.digits).0 in
    (subst (λ m. 1 ≤ m) d.value (first_high b field digit test.0), d.high)

step_is : (field : List ℕ) (mark : Option ℕ) (step : Step) → step_at field mark ≡ Some step → IsWritten step.number
step_is field None step e =
    let title = map_some (λ title. let step : Step = record { title = title; number = None } in step) (unescaped field) step e in
    subst (λ (s : Step). IsWritten s.number) title.2 tt
step_is field (Some at) step e =
    let title = then_some (λ title. option_map (λ n. let step : Step = record { title = title; number = Some n } in step) (number_of (drop (at + 1) field))) (unescaped (take (at - 1) field)) step e in
    let number = map_some (λ n. let step : Step = record { title = title.0; number = Some n } in step) (number_of (drop (at + 1) field)) step title.2 in
    subst (λ (s : Step). IsWritten s.number) number.2 (number_is (drop (at + 1) field) number.0 number.1)

one_step : (field : List ℕ) (step : Step) → step_of field ≡ Some step → IsWritten step.number
unfolding step_of
one_step field step e = step_is field (mark_from false 0 field) step e

steps_are : (fields : List (List ℕ)) (path : List Step) → steps_in fields ≡ Some path → AreSteps path × (length path ≡ length fields)
steps_are [] path e = subst (λ (p : List Step). AreSteps p × (length p ≡ 0)) (some_is [] path e) (tt, refl)
steps_are (field ∷ fields) path e =
    let step = then_some (λ step. option_map (λ steps. step ∷ steps) (steps_in fields)) (step_of field) path e in
    let steps = map_some (λ steps. step.0 ∷ steps) (steps_in fields) path step.2 in
    let later = steps_are fields steps.0 steps.1 in
    subst (λ (p : List Step). AreSteps p × (length p ≡ suc (length fields))) steps.2 ((one_step field step.0 step.1, later.0), ap suc later.1)

path_is : (field : List ℕ) (path : List Step) → path_of field ≡ Some path → IsPath path
unfolding path_of
path_is field path e =
    let all = steps_are (slice_split (λ b. b == 47) field) path e in
    record { some = omega (arith, all.1, length-slice_split (λ (b : ℕ). b == 47) field); steps = all.0 }

target_is : (field : List ℕ) (target : Target) → target_of field ≡ Some target → IsTarget target
unfolding target_of
target_is field target e =
    let P : Type 0 = IsTarget target in
    let top = λ (h : Some Top ≡ Some target). subst IsTarget (some_is Top target h) tt in
    let date = λ (h : Some (Date []) ≡ Some target). subst IsTarget (some_is (Date []) target h) tt in
    let head = λ (h : option_map Head (step_of (drop 5 field)) ≡ Some target).
    let step = map_some Head (step_of (drop 5 field)) target h in subst IsTarget step.2 (one_step (drop 5 field) step.0 step.1) in
    let path = λ (h : option_map Path (path_of (drop 5 field)) ≡ Some target).
    let path = map_some Path (path_of (drop 5 field)) target h in subst IsTarget path.2 (path_is (drop 5 field) path.0 path.1) in
    let below = λ (h : option_map Date (path_of (drop 5 field)) ≡ Some target).
    let path = map_some Date (path_of (drop 5 field)) target h in subst IsTarget path.2 (path_is (drop 5 field) path.0 path.1).steps in
    chosen (bytes_eq field (codes "top")) _ _ target P top
    (chosen (bytes_eq field (codes "date")) _ _ target P date
    (chosen (begins_with (codes "head:") field) _ _ target P head
    (chosen (begins_with (codes "path:") field) _ _ target P path
    (chosen (begins_with (codes "date:") field) _ None target P below (never target P))))) e

position_is : (field : List ℕ) (at : ℕ) → position_of field ≡ Some at → IsPosition at
unfolding position_of
position_is field at e = (digits_are 8 field at (untested (leads_with_zero field) (digits_of 8 field) at e).1).high

le_is : (a b : ℕ) → nat_le a b ≡ true → a ≤ b
le_is a b e = grind (arith, nat_tests)

lt_is : (a b : ℕ) → nat_lt a b ≡ true → a < b
lt_is a b e = grind (arith, nat_tests)

made_is : (y m d h n : ℕ) (moment : Moment) → moment_at (y, m, d) (h, n) ≡ Some moment → IsMoment moment
made_is y m d h n moment e =
    let test = tested (is_day y m d && nat_lt h 24 && nat_lt n 60) (at_minute (civil_day y m d) (h * 60 + n)) moment e in
    let t1 = both (is_day y m d && nat_lt h 24) (nat_lt n 60) test.0 in
    let t2 = both (is_day y m d) (nat_lt h 24) t1.0 in
    let d1 = both (nat_le 1 y && nat_le y 9999 && nat_le 1 m && nat_le m 12 && nat_le 1 d) (nat_le d (days_in_month (pos y) m)) t2.0 in
    let d2 = both (nat_le 1 y && nat_le y 9999 && nat_le 1 m && nat_le m 12) (nat_le 1 d) d1.0 in
    let d3 = both (nat_le 1 y && nat_le y 9999 && nat_le 1 m) (nat_le m 12) d2.0 in
    let d4 = both (nat_le 1 y && nat_le y 9999) (nat_le 1 m) d3.0 in
    let d5 = both (nat_le 1 y) (nat_le y 9999) d4.0 in
    let hour = lt_is h 24 t2.1 in
    let minute = lt_is n 60 t1.1 in
    let is : IsMoment (at_minute (civil_day y m d) (h * 60 + n)) = record {
      day = ((le_is 1 y d5.0, le_is y 9999 d5.1), (le_is 1 m d4.1, le_is m 12 d3.1), (le_is 1 d d2.1, le_is d (days_in_month (pos y) m) d1.1));
      minute = omega (arith, hour, minute);
    } in
    subst IsMoment test.1 is

moment_is : (field : List ℕ) (moment : Moment) → moment_of field ≡ Some moment → IsMoment moment
unfolding moment_of
moment_is field moment e =
    let date = then_some (λ date. option_and_then (λ time. moment_at date time) (time_of (drop 10 field))) (date_of (take 10 field)) moment e in
    let time = then_some (λ time. moment_at date.0 time) (time_of (drop 10 field)) moment date.2 in
    made_is date.0.0 date.0.1 date.0.2 time.0.0 time.0.1 moment time.2

-- ---- commands

abbrev Read : Option Command → Command → Type 0
Read o command = o ≡ Some command → IsSpellable command

show_is : (file : List ℕ) (c : Command) → Read (show_of file) c
unfolding show_of
show_is file c e = let f = map_some (λ f. Ask (Show f)) (file_of file) c e in subst IsSpellable f.2 (file_is file f.0 f.1)

clock_out_is : (moment : List ℕ) (c : Command) → Read (clock_out_of moment) c
unfolding clock_out_of
clock_out_is moment c e = let m = map_some (λ m. Change (ClockOut m)) (moment_of moment) c e in subst IsSpellable m.2 (moment_is moment m.0 m.1)

clocked_is : (file path : List ℕ) (c : Command) → Read (clocked_of file path) c
unfolding clocked_of
clocked_is file path c e = grind (arith, common_steps, then_some, map_some, file_is, path_is)

archive_is : (file path moment : List ℕ) (c : Command) → Read (archive_of file path moment) c
unfolding archive_of
archive_is file path moment c e = grind (arith, common_steps, then_some, map_some, file_is, path_is, moment_is)

clock_in_is : (file path moment : List ℕ) (c : Command) → Read (clock_in_of file path moment) c
unfolding clock_in_of
clock_in_is file path moment c e = grind (arith, common_steps, then_some, map_some, file_is, path_is, moment_is)

todo_is : (file path state moment : List ℕ) (c : Command) → Read (todo_of file path state moment) c
unfolding todo_of
todo_is file path state moment c e =
    let f = then_some _ (file_of file) c e in
    let p = then_some _ (path_of path) c f.2 in
    let s = then_some _ (unescaped state) c p.2 in
    let m = map_some _ (moment_of moment) c s.2 in
    subst IsSpellable m.2 (file_is file f.0 f.1, path_is path p.0 p.1, moment_is moment m.0 m.1)

edit_is : (file at old new : List ℕ) (c : Command) → Read (edit_of file at old new) c
unfolding edit_of
edit_is file at old new c e =
    let f = then_some _ (file_of file) c e in
    let a = then_some _ (position_of at) c f.2 in
    let o = then_some _ (unescaped old) c a.2 in
    let n = map_some _ (unescaped new) c o.2 in
    subst IsSpellable n.2 (file_is file f.0 f.1, position_is at a.0 a.1)

refile_is : (file path to_file to_path place : List ℕ) (c : Command) → Read (refile_of file path to_file to_path place) c
unfolding refile_of
refile_is file path to_file to_path place c e = grind (arith, common_steps, then_some, map_some, file_is, path_is)

capture_is : (file target place moment template initial : List ℕ) (c : Command) → Read (capture_of file target place moment template initial) c
unfolding capture_of
capture_is file target place moment template initial c e =
    let f = then_some _ (file_of file) c e in
    let t = then_some _ (target_of target) c f.2 in
    let p = then_some _ (place_of place) c t.2 in
    let m = then_some _ (moment_of moment) c p.2 in
    let x = then_some _ (unescaped template) c m.2 in
    let i = map_some _ (unescaped initial) c x.2 in
    subst IsSpellable i.2 (file_is file f.0 f.1, target_is target t.0 t.1, moment_is moment m.0 m.1)

fields_are : (fields : List (List ℕ)) (c : Command) → Read (command_of_fields fields) c
fields_are [] c e = absurd cc
fields_are (word ∷ []) c e =
    chosen (bytes_eq word (codes "settle")) (Some Settle) None c (IsSpellable c) (λ h. subst IsSpellable (some_is Settle c h) tt) (never c (IsSpellable c)) e
fields_are (word ∷ a ∷ []) c e = grind (arith, common_steps, chosen, show_is, clock_out_is, never)
fields_are (word ∷ a ∷ b ∷ []) c e = chosen (bytes_eq word (codes "time")) _ None c (IsSpellable c) (clocked_is a b c) (never c (IsSpellable c)) e
fields_are (word ∷ a ∷ b ∷ d ∷ []) c e = grind (arith, common_steps, chosen, archive_is, clock_in_is, never)
fields_are (word ∷ a ∷ b ∷ d ∷ f ∷ []) c e = grind (arith, common_steps, chosen, todo_is, edit_is, never)
fields_are (word ∷ a ∷ b ∷ d ∷ f ∷ g ∷ []) c e = chosen (bytes_eq word (codes "refile")) _ None c (IsSpellable c) (refile_is a b d f g c) (never c (IsSpellable c)) e
fields_are (word ∷ a ∷ b ∷ d ∷ f ∷ g ∷ h ∷ []) c e = chosen (bytes_eq word (codes "capture")) _ None c (IsSpellable c) (capture_is a b d f g h c) (never c (IsSpellable c)) e
fields_are (word ∷ a ∷ b ∷ d ∷ f ∷ g ∷ h ∷ i ∷ fields) c e = absurd cc

pub command_is : (line : List ℕ) (command : Command) → command_of line ≡ Some command → IsSpellable command
command_is line command e = fields_are (slice_split (λ b. b == 9) line) command e
