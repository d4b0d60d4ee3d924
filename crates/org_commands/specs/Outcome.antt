-- What a command is to do, on plain texts.
use Rattle.std.specs.Option.{unwrap_or}
use Rattle.std.specs.Str.{bytes_eq}
use Rattle.std.specs.Prelude.{◌≡◌, ℕ, ◌-◌, ◌^◌, ◌==◌, List, [], ◌∷◌, map, Option, Some, None, Result, Ok, Err, if◌then◌else◌}
use Rattle.org_fault.specs.declared.refusal.Refusal.{Refusal}
use Rattle.org_fault.specs.declared.refusal.Refusal.TheVariants.{NoSuchFile, NoClock, NotThere, TooLarge}
use Rattle.org_outline.specs.declared.steps.Step.{Step}
use Rattle.org_outline.specs.declared.moves.Place.{Place}
use Rattle.org_outline.specs.declared.paths.PathFault.{PathFault}
use Rattle.org_outline.specs.Paths.{find_path, refusal_of}
use Rattle.org_outline.specs.Tree.{Document, Node, print, tree}
use Rattle.org_splice.specs.Replaced.{replaced}
use Rattle.org_stamp.specs.Calendar.{Moment}
use Rattle.org_capture.specs.declared.target.Target.{Target}
use Rattle.org_capture.specs.Capture.{captured}
use Rattle.org_move.specs.Archive.{archive_across, archive_within}
use Rattle.org_move.specs.Location.{Destination, location}
use Rattle.org_move.specs.Refile.{Moved, refile_across, refile_within}
use Rattle.org_state.specs.declared.run.Running.{Running}
use Rattle.org_state.specs.Clock.{clocked_at}
use Rattle.org_state.specs.Todo.{todo as in_state}
use Rattle.org_commands.specs.declared.command.Command.{Command}
use Rattle.org_commands.specs.declared.command.Command.TheVariants as command
use Rattle.org_commands.specs.declared.command.Change.{Change}
use Rattle.org_commands.specs.declared.command.Change.TheVariants.{Capture, Refile, Todo, ClockIn, ClockOut, Archive, Edit}
use Rattle.org_commands.specs.declared.command.Question.{Question}
use Rattle.org_commands.specs.declared.command.Question.TheVariants.{Time, Show}
use Rattle.org_commands.specs.Capture.{new_entry}
use Rattle.org_commands.specs.Clocks.{running_over}
use Rattle.org_commands.specs.Clocking.{clocked_in, clocked_out, clock_moved}
use Rattle.org_commands.specs.Files.{has_large}
use Rattle.org_commands.specs.InOrder.{text_at, with_all}
use Rattle.org_commands.specs.Refile.{text_within, texts_across}
use Rattle.org_commands.specs.Session.{Session}

pub data Outcome : Type 0 where
  -- nothing, for this reason
  Refuses : Refusal → Outcome
  -- to answer this text
  Shows : List ℕ → Outcome
  -- to answer this time, in minutes
  Reports : ℕ → Outcome
  -- to settle what was accepted
  AsksToSettle : Outcome
  -- to be accepted: it gives the files of these names new texts, and these are the texts of all
  -- files after it
  Accepts : List (List ℕ) → List (List ℕ) → Outcome

-- it is to be accepted, with these texts of all files after it
abbrev pub IsAccepted : Outcome → List (List ℕ) → Type 0
IsAccepted outcome files = (names : List (List ℕ)) × (outcome ≡ Accepts names files)

-- the files that it gives new texts
abbrev pub written : Outcome → List (List ℕ)
written (Accepts names files) = names
written (Refuses why) = []
written (Shows text) = []
written (Reports minutes) = []
written AsksToSettle = []

-- one more command, which gives the files of these names new texts, with these texts of all files
-- after it, unless the accepted commands are as many as can be counted
abbrev pub counted : Session → List (List ℕ) → List (List ℕ) → Outcome
counted s names files = if s.accepted == 2 ^ 64 - 1 then Refuses TooLarge else Accepts names files

-- new texts for files, unless one is past the limit
abbrev pub changed : Session → List (List ℕ × List ℕ) → Outcome
changed s changes =
    if has_large changes then Refuses TooLarge
    else counted s (map (λ change. change.0) changes) (with_all s.names s.files changes)

-- the file with the document that an entry makes of it
abbrev pub with_document : Session → List ℕ → Result Document Refusal → Outcome
with_document s name (Ok new) = changed s ((name, print new) ∷ [])
with_document s name (Err why) = Refuses why

abbrev pub with_entry : Session → List ℕ → Target → Place → Moment → Result Node Refusal
    → List ℕ → Outcome
with_entry s name target place moment (Ok entry) text =
    with_document s name (captured s.states target place moment entry (tree text))
with_entry s name target place moment (Err why) text = Refuses why

-- A capture into a file that has this text: it is refused for its file first, then for its
-- template, then for its entry, then for its target.
abbrev pub capture : Session → List ℕ → Target → Place → Moment → List ℕ → List ℕ
    → Option (List ℕ) → Outcome
capture s name target place moment template initial None = Refuses NoSuchFile
capture s name target place moment template initial (Some text) =
    with_entry s name target place moment (new_entry moment template initial) text

-- the new texts of what a move makes
abbrev pub with_moved : {A : Type 0} → Session → (A → List (List ℕ × List ℕ)) → Result A Refusal
    → Outcome
with_moved s texts (Ok new) = changed s (texts new)
with_moved s texts (Err why) = Refuses why

-- A refile from a file that has the first text into one that has the second, which are one where
-- their names are. It is refused for the source's name first, then for the target's, then for the
-- path in the source, then for the one in the target, then where the target lies in what is moved.
abbrev pub refile : Session → List ℕ → List Step → List ℕ → List Step → Place
    → Option (List ℕ) → Option (List ℕ) → Outcome
refile s file path to_file to place None into = Refuses NoSuchFile
refile s file path to_file to place (Some text) None = Refuses NoSuchFile
refile s file path to_file to place (Some text) (Some target) =
    if bytes_eq file to_file
    then with_moved s (text_within file) (refile_within s.states path to place (tree text))
    else with_moved s (texts_across file to_file)
    (refile_across s.states path (tree text) s.states to (tree target) place)

-- the file with the document that another state or clock makes of it; where there is none, nothing
-- changes
abbrev pub with_state : Session → List ℕ → Result (Option Document) Refusal → Outcome
with_state s file (Ok (Some new)) = changed s ((file, print new) ∷ [])
with_state s file (Ok None) = changed s []
with_state s file (Err why) = Refuses why

-- A change of a state in a file that has this text: it is refused for its file first, then for its
-- path, then for its state, then for the heading's planning.
abbrev pub todo : Session → List ℕ → List Step → List ℕ → Moment → Option (List ℕ)
    → Outcome
todo s file path state moment None = Refuses NoSuchFile
todo s file path state moment (Some text) =
    with_state s file (in_state s.states path state moment (tree text))

-- An archiving to this destination, from a file that has the first text; the destination's file has
-- the second one, if it is one of the store's. The two are one where their names are.
abbrev pub archive_to : Session → List ℕ → List Step → Moment → List ℕ → Destination
    → Option (List ℕ) → Outcome
archive_to s file path moment text to None = Refuses NoSuchFile
archive_to s file path moment text to (Some target) =
    if bytes_eq file to.file
    then with_moved s (text_within file) (archive_within s.states file path moment to (tree text))
    else with_moved s (texts_across file to.file)
    (archive_across s.states file path moment (tree text) s.states to (tree target))

abbrev pub archive_at : Session → List ℕ → List Step → Moment → List ℕ
    → Result Destination Refusal → Outcome
archive_at s file path moment text (Ok to) =
    archive_to s file path moment text to (text_at s.names s.files to.file)
archive_at s file path moment text (Err why) = Refuses why

-- An archiving from a file that has this text: it is refused for its file first, then for its path,
-- then where the file is an archive file, then for its location, then for the location's file and
-- for the heading there.
abbrev pub archive : Session → List ℕ → List Step → Moment → Option (List ℕ) → Outcome
archive s file path moment None = Refuses NoSuchFile
archive s file path moment (Some text) =
    archive_at s file path moment text (location s.states file path text)

-- the files with what clocking in at a heading of the second makes of both
abbrev pub with_clock_moved : Session → List ℕ → List ℕ → Result Moved Refusal → Outcome
with_clock_moved s other file (Ok new) = changed s (texts_across other file new)
with_clock_moved s other file (Err why) = Refuses why

-- Clocking in at the heading that was found in a file with this document, where this clock runs: in
-- the same file, or in another one, of which the new text comes first.
abbrev pub clock_in_beside : Session → List ℕ → Moment → Document → Result ℕ PathFault
    → Option (List ℕ × Running) → Outcome
clock_in_beside s file moment d found None = with_state s file (clocked_in moment None d found)
clock_in_beside s file moment d found (Some clock) =
    if bytes_eq clock.0 file then with_state s file (clocked_in moment (Some clock.1) d found)
    else with_clock_moved s clock.0 file
    (clock_moved moment clock.1 (tree (unwrap_or (text_at s.names s.files clock.0) [])) d found)

-- Clocking in at a heading of a file that has this text: it is refused for its file first, then for
-- its path, then where the moment is before the start of the clock that is to be closed.
abbrev pub clock_in : Session → List ℕ → List Step → Moment → Option (List ℕ) → Outcome
clock_in s file path moment None = Refuses NoSuchFile
clock_in s file path moment (Some text) =
    clock_in_beside s file moment (tree text) (find_path s.states (tree text) path)
    (running_over s.names s.files)

-- clocking out, where this clock runs
abbrev pub clock_out : Session → Moment → Option (List ℕ × Running) → Outcome
clock_out s moment None = Refuses NoClock
clock_out s moment (Some clock) =
    with_state s clock.0
    (clocked_out moment clock.1 (tree (unwrap_or (text_at s.names s.files clock.0) [])))

-- the file with what an edit makes of its text; there is none where the bytes that are to give way
-- don't stand there
abbrev pub with_replaced : Session → List ℕ → Option (List ℕ) → Outcome
with_replaced s file None = Refuses NotThere
with_replaced s file (Some new) = changed s ((file, new) ∷ [])

-- An edit of a file that has this text, which is taken as it is: it is refused for its file first,
-- then where the bytes that are to give way don't stand there.
abbrev pub edit : Session → List ℕ → ℕ → List ℕ → List ℕ → Option (List ℕ) → Outcome
edit s file at old new None = Refuses NoSuchFile
edit s file at old new (Some text) = with_replaced s file (replaced text at old new)

abbrev pub with_minutes : Result ℕ PathFault → Outcome
with_minutes (Ok minutes) = Reports minutes
with_minutes (Err fault) = Refuses (refusal_of fault)

-- The time clocked at a heading, and below it, of a file that has this text: it is refused for its
-- file first, then for its path.
abbrev pub time : Session → List Step → Option (List ℕ) → Outcome
time s path None = Refuses NoSuchFile
time s path (Some text) = with_minutes (clocked_at s.states path (tree text))

abbrev pub show : Option (List ℕ) → Outcome
show None = Refuses NoSuchFile
show (Some text) = Shows text

-- what a change is to do
abbrev pub outcome_of_change : Session → Change → Outcome
outcome_of_change s (Capture c) =
    capture s c.file c.target c.place c.moment c.template c.initial (text_at s.names s.files c.file)
outcome_of_change s (Refile c) =
    refile s c.file c.path c.to_file c.to_path c.place (text_at s.names s.files c.file)
    (text_at s.names s.files c.to_file)
outcome_of_change s (Todo c) = todo s c.file c.path c.state c.moment (text_at s.names s.files c.file)
outcome_of_change s (Archive c) = archive s c.file c.path c.moment (text_at s.names s.files c.file)
outcome_of_change s (ClockIn c) = clock_in s c.file c.path c.moment (text_at s.names s.files c.file)
outcome_of_change s (ClockOut moment) = clock_out s moment (running_over s.names s.files)
outcome_of_change s (Edit c) = edit s c.file c.at c.old c.new (text_at s.names s.files c.file)

-- what a question is to be answered
abbrev pub outcome_of_question : Session → Question → Outcome
outcome_of_question s (Time file path) = time s path (text_at s.names s.files file)
outcome_of_question s (Show file) = show (text_at s.names s.files file)

abbrev pub outcome : Session → Command → Outcome
outcome s (command.Change change) = outcome_of_change s change
outcome s (command.Ask question) = outcome_of_question s question
outcome s command.Settle = AsksToSettle
