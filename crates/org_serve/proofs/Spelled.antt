-- A line that spells a command is cut into the fields that it was made of, and read as the command.
use Rattle.std.proofs.Common.{rules, ◌≡◌, ℕ, ◌+◌, ◌/◌, ◌%◌, ◌^◌, ◌<◌, ◌≤◌, ◌==◌, true, false, List, [], ◌∷◌, ◌++◌, length, get_or, codes, Option, None, Some, refl, sym, ap, ◌∙◌, arith, inl, inr}
use Rattle.std.proofs.lemmas.Grind.{common_steps}
use Rattle.std.specs.Prelude.{decimal, nat_le}
use Rattle.std.specs.Char.{is_ascii_digit}
use Rattle.std.specs.List.{All, AllByRecursion, list_all, slice_split, join_with_byte}
use Rattle.std.specs.Str.{all_ascii_digits}
use Rattle.std.proofs.lemmas.Bool.{cases_Bool, ne_eqb}
use Rattle.std.proofs.lemmas.Bool.Decides.{eqb_tells, nat_tests}
use Rattle.std.proofs.lemmas.Fmt.{decimal_digit, decimal_nonempty, digits_decimal, digits_value-decimal, first_decimal, length-decimal-le}
use Rattle.std.proofs.lemmas.List.Elements.{All-nil, All-cons, All-append}
use Rattle.std.proofs.lemmas.List.Splits.{slice_split_none, slice_split_at}
use Rattle.org_outline.specs.declared.moves.Place.{Place}
use Rattle.org_outline.specs.declared.moves.Place.TheVariants.{First, Last}
use Rattle.org_outline.specs.declared.steps.Step.{Step}
use Rattle.org_capture.specs.declared.target.Target.{Target}
use Rattle.org_capture.specs.declared.target.Target.TheVariants.{Top, Head, Path, Date}
use Rattle.org_stamp.specs.Calendar.{CivilDay, Moment, IsDay}
use Rattle.org_stamp.specs.Stamp.{two_digits, clock_text, date_text}
use Rattle.org_commands.specs.declared.command.Command.{Command}
use Rattle.org_commands.specs.declared.command.Command.TheVariants as command
use Rattle.org_commands.specs.declared.command.Change.{Change}
use Rattle.org_commands.specs.declared.command.Change.TheVariants.{Capture, Refile, Todo, ClockIn, ClockOut, Edit, Archive}
use Rattle.org_commands.specs.declared.command.Question.{Question}
use Rattle.org_commands.specs.declared.command.Question.TheVariants.{Time, Show}
use Rattle.org_serve.specs.Grammar.{IsWritten, escaped, file_of, number_field, step_field, path_of, path_field, target_of, place_of, leads_with_zero, position_of, pair_of, date_of, time_of, moment_at, moment_of, show_of, capture_of, refile_of, todo_of, edit_of, archive_of, clock_in_of, clock_out_of, clocked_of, command_of, command_of_fields}
use Rattle.org_serve.specs.Spelling.{place_field, moment_field, target_field, fields_of_change, fields_of_question, line_of, IsFile, AreSteps, IsPath, IsMoment, IsPosition, IsTarget, IsSpellableChange, IsSpellableQuestion, IsSpellable}
use Rattle.org_serve.proofs.Escapes.{unescaped-escaped}
use Rattle.org_serve.proofs.Paths.{path-written}
use Rattle.org_serve.proofs.Steps.{all_digits_are, numerals, step-written}

-- ---- no field has a tab

abbrev HasNoTab : List ℕ → Type 0
HasNoTab l = All (λ b. (b == 9) ≡ false) l

no_tab-nil : HasNoTab []
no_tab-nil = All-nil (λ b. (b == 9) ≡ false)

no_tab-cons : (b : ℕ) (l : List ℕ) → (b == 9) ≡ false → HasNoTab l → HasNoTab (b ∷ l)
no_tab-cons = All-cons (λ b. (b == 9) ≡ false)

no_tab-append : (a b : List ℕ) → HasNoTab a → HasNoTab b → HasNoTab (a ++ b)
no_tab-append = All-append (λ b. (b == 9) ≡ false)

no_tab-escaped : (text : List ℕ) → HasNoTab (escaped text)
no_tab-escaped [] = no_tab-nil
no_tab-escaped (b ∷ bytes) = grind (arith, common_steps, no_tab-escaped bytes)

digits_no_tab : (ds : List ℕ) → all_ascii_digits ds ≡ true → HasNoTab ds
digits_no_tab [] all = no_tab-nil
digits_no_tab (c ∷ cs) all =
    elim (eqb_tells c 9) [
      | inl tab ↦ absurd (let no_digit = rw tab.1 at all in cc)
      | inr p ↦ elim (cases_Bool (is_ascii_digit c)) [
        | inl e ↦ no_tab-cons c cs p.0 (digits_no_tab cs (rw e at all))
        | inr e ↦ absurd (let no_digit = rw e at all in cc)
      ]
    ]

no_tab-decimal : (n : ℕ) → n < 2 ^ 64 → HasNoTab (decimal n)
no_tab-decimal n small = digits_no_tab (decimal n) (digits_decimal numerals n small)

no_tab-number : (number : Option ℕ) → IsWritten number → HasNoTab (number_field number)
no_tab-number None written = no_tab-nil
no_tab-number (Some n) written = grind (arith, common_steps, no_tab-cons, no_tab-decimal)

no_tab-step : (step : Step) → IsWritten step.number → HasNoTab (step_field step)
no_tab-step step written = no_tab-append (escaped step.title) (number_field step.number) (no_tab-escaped step.title) (no_tab-number step.number written)

no_tab-path : (path : List Step) → AreSteps path → HasNoTab (path_field path)
no_tab-path [] all = no_tab-nil
no_tab-path (step ∷ []) all = no_tab-step step all.0
no_tab-path (step ∷ next ∷ path) all =
    no_tab-append (step_field step) (47 ∷ path_field (next ∷ path)) (no_tab-step step all.0) (no_tab-cons 47 (path_field (next ∷ path)) refl (no_tab-path (next ∷ path) all.1))

no_tab-digit : (n : ℕ) → (48 + n % 10 == 9) ≡ false
no_tab-digit n = ne_eqb (48 + n % 10) 9 (λ is. omega (arith, is))

no_tab-two : (n : ℕ) → HasNoTab (two_digits n)
no_tab-two n = no_tab-cons (48 + n / 10 % 10) ((48 + n % 10) ∷ []) (no_tab-digit (n / 10)) (no_tab-cons (48 + n % 10) [] (no_tab-digit n) no_tab-nil)

no_tab-moment : (m : Moment) → HasNoTab (moment_field m)
no_tab-moment m = search (rules, arith, no_tab-append, no_tab-two, no_tab-cons)

word_no_tab : (w : List ℕ) → list_all (λ b. nat_le 10 b) w ≡ true → HasNoTab w
word_no_tab [] all = no_tab-nil
word_no_tab (b ∷ w) all =
    elim (cases_Bool (nat_le 10 b)) [
      | inl e ↦ no_tab-cons b w (grind (arith, nat_tests, e)) (word_no_tab w (rw e at all))
      | inr e ↦ absurd (let no = rw e at all in cc)
    ]

no_tab-target : (target : Target) → IsTarget target → HasNoTab (target_field target)
no_tab-target Top is = word_no_tab (codes "top") refl
no_tab-target (Head step) is = no_tab-append (codes "head:") (step_field step) (word_no_tab (codes "head:") refl) (no_tab-step step is)
no_tab-target (Path path) is = no_tab-append (codes "path:") (path_field path) (word_no_tab (codes "path:") refl) (no_tab-path path is.steps)
no_tab-target (Date []) is = word_no_tab (codes "date") refl
no_tab-target (Date (step ∷ path)) is = no_tab-append (codes "date:") (path_field (step ∷ path)) (word_no_tab (codes "date:") refl) (no_tab-path (step ∷ path) is)

no_tab-place : (place : Place) → HasNoTab (place_field place)
no_tab-place First = word_no_tab (codes "first") refl
no_tab-place Last = word_no_tab (codes "last") refl

-- ---- each field is read back

file_read : (name : List ℕ) → IsFile name → file_of (escaped name) ≡ Some name
unfolding file_of
file_read name is = let utf8 = is.utf8 in let fits = is.allowed in rw (unescaped-escaped name, utf8, fits) refl

path_read : (path : List Step) → IsPath path → path_of (path_field path) ≡ Some path
path_read [] is = absurd (let some = is.some in omega arith)
path_read (step ∷ path) is = path-written step path is.steps

place_read : (place : Place) → place_of (place_field place) ≡ Some place
unfolding place_of
place_read First = refl
place_read Last = refl

target_read : (target : Target) → IsTarget target → target_of (target_field target) ≡ Some target
unfolding target_of
target_read Top is = refl
target_read (Head step) is = rw (step-written step is) refl
target_read (Path path) is = rw (path_read path is) refl
target_read (Date []) is = refl
target_read (Date (step ∷ path)) is = rw (path-written step path is) refl

leads : (ds : List ℕ) → 48 < get_or ds 0 0 → leads_with_zero ds ≡ false
leads [] first = absurd (omega arith)
leads (a ∷ []) first = refl
leads (a ∷ b ∷ more) first = ne_eqb a 48 (λ is. omega arith)

no_lead : (n : ℕ) → n < 2 ^ 64 → leads_with_zero (decimal n) ≡ false
no_lead n small = grind (arith, common_steps, eqb_tells, decimal_digit, leads, first_decimal)

position_read : (n : ℕ) → IsPosition n → position_of (decimal n) ≡ Some n
unfolding position_of
position_read n high =
    let small : n < 2 ^ 64 = omega (arith, high) in
    let some : 0 < length (decimal n) = decimal_nonempty n small in
    let few : length (decimal n) ≤ 8 = length-decimal-le 8 n (omega arith) high small in
    let one : nat_le 1 (length (decimal n)) ≡ true = grind (arith, nat_tests, some) in
    let eight : nat_le (length (decimal n)) 8 ≡ true = grind (arith, nat_tests, few) in
    let digits : list_all is_ascii_digit (decimal n) ≡ true = sym (all_digits_are (decimal n)) ∙ digits_decimal numerals n small in
    rw (no_lead n small, one, eight, digits) (ap Some (digits_value-decimal numerals n small))

pair_read : (n : ℕ) → pair_of (48 + n / 10 % 10) (48 + n % 10) ≡ Some (n % 100)
pair_read n = grind (arith, common_steps)

pair_is : (n : ℕ) → n < 100 → pair_of (48 + n / 10 % 10) (48 + n % 10) ≡ Some n
pair_is n low = let value : n % 100 ≡ n = omega arith in pair_read n ∙ ap Some value

passes : (a b : ℕ) → a ≤ b → nat_le a b ≡ true
passes a b le = grind (arith, nat_tests)

date_read : (d : CivilDay) → IsDay d → date_of (date_text d) ≡ Some (d.year, d.month, d.day)
date_read d is = grind (arith, common_steps)

clock_read : (n : ℕ) → n < 1440 → time_of (32 ∷ clock_text n) ≡ Some (n / 60, n % 60)
clock_read n low = grind (arith, common_steps)

moment_made : (m : Moment) → IsMoment m → moment_at (m.day.year, m.day.month, m.day.day) (m.minute / 60, m.minute % 60) ≡ Some m
moment_made m is = grind (arith, common_steps)

moment_read : (m : Moment) → IsMoment m → moment_of (moment_field m) ≡ Some m
unfolding moment_of
moment_read m is = grind (arith, common_steps, moment_at, date_read, clock_read, moment_made)

-- ---- the line

split_joined : (field : List ℕ) (fields : List (List ℕ)) → AllByRecursion HasNoTab (field ∷ fields) → slice_split (λ b. b == 9) (join_with_byte 9 (field ∷ fields)) ≡ field ∷ fields
split_joined field [] all = slice_split_none (λ b. b == 9) field all.0
split_joined field (next ∷ fields) all =
    slice_split_at (λ b. b == 9) field 9 (join_with_byte 9 (next ∷ fields)) all.0 refl ∙ ap (λ later. field ∷ later) (split_joined next fields all.1)

fields_read : (word : List ℕ) (fields : List (List ℕ)) → list_all (λ b. nat_le 10 b) word ≡ true → AllByRecursion HasNoTab fields → command_of (join_with_byte 9 (word ∷ fields)) ≡ command_of_fields (word ∷ fields)
fields_read word fields plain all = ap command_of_fields (split_joined word fields (word_no_tab word plain, all))

change_read : (change : Change) → IsSpellableChange change → command_of (join_with_byte 9 (fields_of_change change)) ≡ Some (command.Change change)
unfolding capture_of refile_of todo_of edit_of archive_of clock_in_of clock_out_of
change_read (Capture c) is =
    fields_read (codes "capture") (escaped c.file ∷ target_field c.target ∷ place_field c.place ∷ moment_field c.moment ∷ escaped c.template ∷ escaped c.initial ∷ []) refl
    (no_tab-escaped c.file, (no_tab-target c.target is.1, (no_tab-place c.place, (no_tab-moment c.moment, (no_tab-escaped c.template, (no_tab-escaped c.initial, tt))))))
    ∙ rw (file_read c.file is.0, target_read c.target is.1, place_read c.place, moment_read c.moment is.2, unescaped-escaped c.template, unescaped-escaped c.initial) refl
change_read (Refile c) is =
    fields_read (codes "refile") (escaped c.file ∷ path_field c.path ∷ escaped c.to_file ∷ path_field c.to_path ∷ place_field c.place ∷ []) refl
    (no_tab-escaped c.file, (no_tab-path c.path is.1.steps, (no_tab-escaped c.to_file, (no_tab-path c.to_path is.3.steps, (no_tab-place c.place, tt)))))
    ∙ rw (file_read c.file is.0, path_read c.path is.1, file_read c.to_file is.2, path_read c.to_path is.3, place_read c.place) refl
change_read (Todo c) is =
    fields_read (codes "todo") (escaped c.file ∷ path_field c.path ∷ escaped c.state ∷ moment_field c.moment ∷ []) refl
    (no_tab-escaped c.file, (no_tab-path c.path is.1.steps, (no_tab-escaped c.state, (no_tab-moment c.moment, tt))))
    ∙ rw (file_read c.file is.0, path_read c.path is.1, unescaped-escaped c.state, moment_read c.moment is.2) refl
change_read (Archive c) is =
    fields_read (codes "archive") (escaped c.file ∷ path_field c.path ∷ moment_field c.moment ∷ []) refl (no_tab-escaped c.file, (no_tab-path c.path is.1.steps, (no_tab-moment c.moment, tt)))
    ∙ rw (file_read c.file is.0, path_read c.path is.1, moment_read c.moment is.2) refl
change_read (ClockIn c) is =
    fields_read (codes "clock-in") (escaped c.file ∷ path_field c.path ∷ moment_field c.moment ∷ []) refl (no_tab-escaped c.file, (no_tab-path c.path is.1.steps, (no_tab-moment c.moment, tt)))
    ∙ rw (file_read c.file is.0, path_read c.path is.1, moment_read c.moment is.2) refl
change_read (ClockOut m) is = fields_read (codes "clock-out") (moment_field m ∷ []) refl (no_tab-moment m, tt) ∙ rw (moment_read m is) refl
change_read (Edit c) is =
    let high = is.1 in
    fields_read (codes "edit") (escaped c.file ∷ decimal c.at ∷ escaped c.old ∷ escaped c.new ∷ []) refl
    (no_tab-escaped c.file, (no_tab-decimal c.at (omega (arith, high)), (no_tab-escaped c.old, (no_tab-escaped c.new, tt))))
    ∙ rw (file_read c.file is.0, position_read c.at is.1, unescaped-escaped c.old, unescaped-escaped c.new) refl

question_read : (question : Question) → IsSpellableQuestion question → command_of (join_with_byte 9 (fields_of_question question)) ≡ Some (command.Ask question)
unfolding show_of clocked_of
question_read (Time file path) is =
    fields_read (codes "time") (escaped file ∷ path_field path ∷ []) refl (no_tab-escaped file, (no_tab-path path is.1.steps, tt)) ∙ rw (file_read file is.0, path_read path is.1) refl
question_read (Show file) is = fields_read (codes "show") (escaped file ∷ []) refl (no_tab-escaped file, tt) ∙ rw (file_read file is) refl

pub command_read : (command : Command) → IsSpellable command → command_of (line_of command) ≡ Some command
command_read (command.Change change) is = change_read change is
command_read (command.Ask question) is = question_read question is
command_read command.Settle is = fields_read (codes "settle") [] refl tt

-- no line spells two
pub one_command : (a b : Command) → IsSpellable a → IsSpellable b → line_of a ≡ line_of b → a ≡ b
one_command a b left right same =
    let both : Some a ≡ Some b = sym (command_read a left) ∙ ap command_of same ∙ command_read b right in
    cc
