-- What the words of the command line ask the program to do, and why they aren't taken.
use Rattle.std.specs.Prelude.{◌≡◌, ℕ, Bool, true, false, List, [], ◌∷◌, Option, None, Some, map, string_bytes, codes, unwrap_or}
use Rattle.std.specs.Str.{bytes_eq}
use Rattle.std.specs.Str.Parse.{IsNumeral, digits_value}
use Rattle.clap.specs.Words.{App, Rule, Row, new_app, new_rule, with_rule, matches_of, first_of, all_of, fault_of}
use Rattle.clap.specs.declared.builder.action.ArgAction.TheVariants.{Append, SetTrue}
use Rattle.org_fileset.specs.declared.open.OpenFault.TheVariants.{OutOfMemory}
use Rattle.org_commands.specs.declared.tally.Group.{Group}
use Rattle.org_commands.specs.declared.tally.Group.TheVariants.{Of, Whole}
use Rattle.org_store.specs.Group.{IsGroupSize}
use Rattle.org_program.specs.declared.arguments.Arguments.{Arguments}
use Rattle.org_program.specs.declared.arguments.Recovery.{Recovery}
use Rattle.org_program.specs.declared.arguments.Recovery.TheVariants.{Checked, Adopted, Forgotten}
use Rattle.org_program.specs.declared.fault.Fault.{Fault}
use Rattle.org_program.specs.declared.fault.Fault.TheVariants.{Usage, Open}

-- The command line, as clap has it: a folder, which has to be there; any number of `--new NAME` and
-- of `--only NAME`; and, at most once each, `--todo LIST` and `--done LIST`, which are TODO and
-- DONE where they aren't there, `--group K`, `--whole`, `--adopt` and `--forget`.

abbrev pub folder_argument : Rule
folder_argument = record (new_rule (codes "DIR")) { required = true }

-- an option with one value, that may be given any number of times
abbrev pub names_argument : List ℕ → Rule
names_argument name =
    record (new_rule name) { long = Some name; value_names = 1; action = Some Append }

abbrev pub todo_argument : Rule
todo_argument =
    record (new_rule (codes "todo"))
    { long = Some (codes "todo"); value_names = 1; defaults = codes "TODO" ∷ [] }

abbrev pub done_argument : Rule
done_argument =
    record (new_rule (codes "done"))
    { long = Some (codes "done"); value_names = 1; defaults = codes "DONE" ∷ [] }

abbrev pub group_argument : Rule
group_argument =
    record (new_rule (codes "group"))
    { long = Some (codes "group"); value_names = 1 }

abbrev pub whole_argument : Rule
whole_argument =
    record (new_rule (codes "whole")) { long = Some (codes "whole"); action = Some SetTrue }

abbrev pub adopt_argument : Rule
adopt_argument =
    record (new_rule (codes "adopt")) { long = Some (codes "adopt"); action = Some SetTrue }

abbrev pub forget_argument : Rule
forget_argument =
    record (new_rule (codes "forget")) { long = Some (codes "forget"); action = Some SetTrue }

abbrev pub command_line : App
command_line =
    with_rule (with_rule (with_rule (with_rule (with_rule (with_rule (with_rule (with_rule (with_rule
    (new_app (codes "orgstore")) folder_argument) (names_argument (codes "new")))
    (names_argument (codes "only"))) todo_argument) done_argument) group_argument) whole_argument)
    adopt_argument) forget_argument

-- What the words give, of which the first is the program's name.

abbrev pub given : List (List ℕ) → List Row
given words = matches_of command_line words

abbrev pub folder_in : List (List ℕ) → List ℕ
folder_in words = unwrap_or (first_of (codes "DIR") (given words)) []

abbrev pub new_in : List (List ℕ) → List (List ℕ)
new_in words = unwrap_or (all_of (codes "new") (given words)) []

abbrev pub only_in : List (List ℕ) → List (List ℕ)
only_in words = unwrap_or (all_of (codes "only") (given words)) []

abbrev pub todo_in : List (List ℕ) → List ℕ
todo_in words = unwrap_or (first_of (codes "todo") (given words)) (codes "TODO")

abbrev pub done_in : List (List ℕ) → List ℕ
done_in words = unwrap_or (first_of (codes "done") (given words)) (codes "DONE")

abbrev pub group_in : List (List ℕ) → Option (List ℕ)
group_in words = first_of (codes "group") (given words)

-- an option without a value is there
abbrev pub set_in : List ℕ → List (List ℕ) → Bool
set_in name words = bytes_eq (unwrap_or (first_of name (given words)) (codes "false")) (codes "true")

abbrev pub whole_in : List (List ℕ) → Bool
whole_in words = set_in (codes "whole") words

abbrev pub adopt_in : List (List ℕ) → Bool
adopt_in words = set_in (codes "adopt") words

abbrev pub forget_in : List (List ℕ) → Bool
forget_in words = set_in (codes "forget") words

-- A command that a crash cut short is adopted or forgotten, and not both; where neither is said,
-- its files are checked.
abbrev pub IsRecoveryGiven : Bool → Bool → Type 0
IsRecoveryGiven true true = ⊥
IsRecoveryGiven true false = Unit {0}
IsRecoveryGiven false forget = Unit {0}

abbrev pub recovery_of : Bool → Bool → Recovery
recovery_of true forget = Adopted
recovery_of false true = Forgotten
recovery_of false false = Checked

-- files are taken as they are, whatever was done to them since the crash
abbrev pub adopts : Recovery → Bool
adopts Adopted = true
adopts Checked = false
adopts Forgotten = false

-- what a crash cut short is given up
abbrev pub forgets : Recovery → Bool
forgets Forgotten = true
forgets Checked = false
forgets Adopted = false

-- decimal digits, without a sign, that write a group
abbrev pub IsGroupText : List ℕ → Type 0
IsGroupText text = IsNumeral 10 text × IsGroupSize (digits_value 10 text)

-- How many commands are settled together: `--whole` stands without a number, and a number without
-- `--whole`; where there is neither, it is 1.
abbrev pub IsGroupGiven : Bool → Option (List ℕ) → Type 0
IsGroupGiven true None = Unit {0}
IsGroupGiven true (Some text) = ⊥
IsGroupGiven false text = IsGroupText (unwrap_or text (codes "1"))

abbrev pub group_of : Bool → Option (List ℕ) → Group
group_of true text = Whole
group_of false text = Of (digits_value 10 (unwrap_or text (codes "1")))

-- clap refuses nothing of the words, and their group is one
abbrev pub AreTaken : List (List ℕ) → Type 0
AreTaken words =
    (fault_of command_line words ≡ []) × IsGroupGiven (whole_in words) (group_in words)
    × IsRecoveryGiven (adopt_in words) (forget_in words)

-- words that are taken, and what they ask the program to do
pub record Say (words : List (List ℕ)) (arguments : Arguments) : Type 0 where
  pub taken : AreTaken words
  pub folder : string_bytes arguments.folder ≡ folder_in words
  pub new : map string_bytes arguments.new.items ≡ new_in words
  pub only : map string_bytes arguments.only.items ≡ only_in words
  pub todo : string_bytes arguments.todo ≡ todo_in words
  pub done : string_bytes arguments.done ≡ done_in words
  pub group : arguments.group ≡ group_of (whole_in words) (group_in words)
  pub recovery : arguments.recovery ≡ recovery_of (adopt_in words) (forget_in words)

-- there was no memory for the words, or else they are refused, for this reason
abbrev pub IsFaultBy : Type 0 → Fault → Type 0
IsFaultBy Reason (Usage text) = Reason
IsFaultBy Reason (Open OutOfMemory) = Unit {0}
IsFaultBy Reason fault = ⊥

-- the words aren't what the program takes, or can't be read at all, or there was no memory for them
abbrev pub IsFaultOfWords : Fault → Type 0
IsFaultOfWords = IsFaultBy (Unit {0})
