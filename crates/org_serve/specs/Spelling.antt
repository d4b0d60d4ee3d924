-- The line that spells a command, and the commands that have one.
use Rattle.std.specs.Prelude.{ℕ, ◌^◌, ◌<◌, ⊤, IsTrue, List, [], ◌∷◌, ◌++◌, length, decimal, codes}
use Rattle.std.specs.List.{AllByRecursion, join_with_byte}
use Rattle.std.specs.Str.{is_utf8}
use Rattle.org_disk.specs.Names.{is_file_name}
use Rattle.org_outline.specs.declared.moves.Place.{Place}
use Rattle.org_outline.specs.declared.moves.Place.TheVariants.{First, Last}
use Rattle.org_outline.specs.declared.steps.Step.{Step}
use Rattle.org_capture.specs.declared.target.Target.{Target}
use Rattle.org_capture.specs.declared.target.Target.TheVariants.{Top, Head, Path, Date}
use Rattle.org_stamp.specs.Calendar.{Moment, IsDay}
use Rattle.org_stamp.specs.Stamp.{IsMinute, clock_text, date_text}
use Rattle.org_commands.specs.declared.command.Command.{Command}
use Rattle.org_commands.specs.declared.command.Command.TheVariants as command
use Rattle.org_commands.specs.declared.command.Change.{Change}
use Rattle.org_commands.specs.declared.command.Change.TheVariants.{Capture, Refile, Todo, ClockIn, ClockOut, Edit, Archive}
use Rattle.org_commands.specs.declared.command.Question.{Question}
use Rattle.org_commands.specs.declared.command.Question.TheVariants.{Time, Show}
use Rattle.org_serve.specs.Grammar.{IsWritten, escaped, path_field, step_field}

-- `first` or `last`
abbrev pub place_field : Place → List ℕ
place_field First = codes "first"
place_field Last = codes "last"

-- `YYYY-MM-DD HH:MM`
abbrev pub moment_field : Moment → List ℕ
moment_field m = date_text m.day ++ (32 ∷ clock_text m.minute)

-- `top`, `head:` and a step, `path:` and a path, `date`, `date:` and a path
abbrev pub target_field : Target → List ℕ
target_field Top = codes "top"
target_field (Head step) = codes "head:" ++ step_field step
target_field (Path path) = codes "path:" ++ path_field path
target_field (Date []) = codes "date"
target_field (Date (step ∷ path)) = codes "date:" ++ path_field (step ∷ path)

-- the word and the other fields of a change
abbrev pub fields_of_change : Change → List (List ℕ)
fields_of_change (Capture c) =
    codes "capture" ∷ escaped c.file ∷ target_field c.target ∷ place_field c.place
    ∷ moment_field c.moment ∷ escaped c.template ∷ escaped c.initial ∷ []
fields_of_change (Refile c) =
    codes "refile" ∷ escaped c.file ∷ path_field c.path ∷ escaped c.to_file
    ∷ path_field c.to_path ∷ place_field c.place ∷ []
fields_of_change (Todo c) =
    codes "todo" ∷ escaped c.file ∷ path_field c.path ∷ escaped c.state ∷ moment_field c.moment ∷ []
fields_of_change (Archive c) =
    codes "archive" ∷ escaped c.file ∷ path_field c.path ∷ moment_field c.moment ∷ []
fields_of_change (ClockIn c) =
    codes "clock-in" ∷ escaped c.file ∷ path_field c.path ∷ moment_field c.moment ∷ []
fields_of_change (ClockOut m) = codes "clock-out" ∷ moment_field m ∷ []
fields_of_change (Edit c) =
    codes "edit" ∷ escaped c.file ∷ decimal c.at ∷ escaped c.old ∷ escaped c.new ∷ []

-- .. and of a question
abbrev pub fields_of_question : Question → List (List ℕ)
fields_of_question (Time file path) = codes "time" ∷ escaped file ∷ path_field path ∷ []
fields_of_question (Show file) = codes "show" ∷ escaped file ∷ []

-- .. and of any command
abbrev pub fields_of : Command → List (List ℕ)
fields_of (command.Change change) = fields_of_change change
fields_of (command.Ask question) = fields_of_question question
fields_of command.Settle = codes "settle" ∷ []

-- the fields with tabs between
abbrev pub line_of : Command → List ℕ
line_of command = join_with_byte 9 (fields_of command)

-- What can be spelled

-- a name that a file may have
pub record IsFile (name : List ℕ) : Type 0 where
  pub utf8 : IsTrue (is_utf8 name)
  pub allowed : IsTrue (is_file_name name)

-- steps without a number, or with one of at most nine digits, from 1 on
abbrev pub AreSteps : List Step → Type 0
AreSteps path = AllByRecursion (λ step. IsWritten step.number) path

-- one such step or more
pub record IsPath (path : List Step) : Type 0 where
  pub some : 0 < length path
  pub steps : AreSteps path

-- a minute of a day of the calendar, in a year from 0001 to 9999
pub record IsMoment (m : Moment) : Type 0 where
  pub day : IsDay m.day
  pub minute : IsMinute m.minute

-- a position of at most eight digits
abbrev pub IsPosition : ℕ → Type 0
IsPosition at = at < 10 ^ 8

abbrev pub IsTarget : Target → Type 0
IsTarget Top = ⊤
IsTarget (Head step) = IsWritten step.number
IsTarget (Path path) = IsPath path
IsTarget (Date path) = AreSteps path

-- each part of the change can be spelled; any bytes can be a state, a template or a text
abbrev pub IsSpellableChange : Change → Type 0
IsSpellableChange (Capture c) = IsFile c.file × IsTarget c.target × IsMoment c.moment
IsSpellableChange (Refile c) = IsFile c.file × IsPath c.path × IsFile c.to_file × IsPath c.to_path
IsSpellableChange (Todo c) = IsFile c.file × IsPath c.path × IsMoment c.moment
IsSpellableChange (Archive c) = IsFile c.file × IsPath c.path × IsMoment c.moment
IsSpellableChange (ClockIn c) = IsFile c.file × IsPath c.path × IsMoment c.moment
IsSpellableChange (ClockOut m) = IsMoment m
IsSpellableChange (Edit c) = IsFile c.file × IsPosition c.at

-- .. of the question
abbrev pub IsSpellableQuestion : Question → Type 0
IsSpellableQuestion (Time file path) = IsFile file × IsPath path
IsSpellableQuestion (Show file) = IsFile file

-- .. of the command
abbrev pub IsSpellable : Command → Type 0
IsSpellable (command.Change change) = IsSpellableChange change
IsSpellable (command.Ask question) = IsSpellableQuestion question
IsSpellable command.Settle = ⊤
