-- The definitions on worked examples.
use Rattle.std.proofs.Common.{◌≡◌, ℕ, List, [], ◌∷◌, Option, Some, None, Err, true, map, refl}
use Rattle.std.specs.Prelude.{codes}
use Rattle.std.specs.Str.{is_utf8}
use Rattle.org_outline.specs.declared.moves.Place.{Place}
use Rattle.org_outline.specs.declared.moves.Place.TheVariants.{First, Last}
use Rattle.org_outline.specs.declared.steps.Step.{Step}
use Rattle.org_capture.specs.declared.target.Target.{Target}
use Rattle.org_capture.specs.declared.target.Target.TheVariants.{Top, Head, Path, Date}
use Rattle.org_stamp.specs.Calendar.{Moment, at_minute, civil_day}
use Rattle.org_commands.specs.declared.command.Command.TheVariants.{Change, Ask}
use Rattle.org_commands.specs.declared.command.Change.TheVariants.{Capture, Refile}
use Rattle.org_commands.specs.declared.command.Question.TheVariants.{Show}
use Rattle.org_commands.specs.declared.command.RunFault.TheVariants.{Device}
use Rattle.org_serve.specs.Grammar.{command_of, unescaped, escaped, moment_of, file_of, path_of, step_of, path_field, show_of, capture_of, refile_of, target_of, place_of, position_of}
use Rattle.org_serve.specs.Lines.{cut}
use Rattle.org_serve.specs.Replies.{answer_text}

lines_of_an_input : cut (codes "a\n\nb") ≡ record { lines = codes "a" ∷ [] ∷ []; rest = codes "b" }
lines_of_an_input = refl

lines_of_nothing : cut [] ≡ record { lines = []; rest = [] }
lines_of_nothing = refl

-- fields of a text, and what they stand for
abbrev texts : List (List ℕ × Option (List ℕ))
texts =
    (codes "a\\nb\\tc\\\\d\\se", Some (codes "a\nb\tc\\d/e"))
    ∷ (codes "a\\x", None)
    ∷ (codes "a\\", None)
    ∷ []

each_of_texts : map (λ row. unescaped row.0) texts ≡ map (λ row. row.1) texts
each_of_texts = refl

spelled : escaped (codes "a/b\n") ≡ codes "a\\sb\\n"
spelled = refl

-- a step without a number, and one with it
abbrev only : List ℕ → Step
only title = record { title = title; number = None }

abbrev nth : ℕ → List ℕ → Step
nth n title = record { title = title; number = Some n }

-- fields PATH, and the paths that they are
abbrev paths : List (List ℕ × Option (List Step))
paths =
    (codes "a/b", Some (only (codes "a") ∷ only (codes "b") ∷ []))
    ∷ (codes "a\\sb", Some (only (codes "a/b") ∷ []))
    ∷ ([], Some (only [] ∷ []))
    ∷ (codes "/", Some (only [] ∷ only [] ∷ []))
    ∷ (codes "a\\/sb", None)
    ∷ (codes "a/b\\x", None)
    ∷ (codes "A\\#2/B", Some (nth 2 (codes "A") ∷ only (codes "B") ∷ []))
    ∷ (codes "a\\\\#2", Some (only (codes "a\\#2") ∷ []))
    ∷ (codes "a\\\\#2\\#1", Some (nth 1 (codes "a\\#2") ∷ []))
    ∷ (codes "A\\#999999999", Some (nth 999999999 (codes "A") ∷ []))
    ∷ (codes "A\\#1000000000", None)
    ∷ (codes "A\\#0", None)
    ∷ (codes "A\\#01", None)
    ∷ (codes "A\\#", None)
    ∷ (codes "A\\#1x", None)
    ∷ (codes "\\#1A", None)
    ∷ (codes "A\\#1\\#1", None)
    ∷ []

each_of_paths : map (λ row. path_of row.0) paths ≡ map (λ row. row.1) paths
unfolding path_of step_of
each_of_paths = refl

written_path : path_field (only (codes "a/b") ∷ only (codes "c") ∷ []) ≡ codes "a\\sb/c"
written_path = refl

-- fields AT, and the places in a file that they are
abbrev positions : List (List ℕ × Option ℕ)
positions =
    (codes "0", Some 0) ∷ (codes "99999999", Some 99999999) ∷ (codes "100000000", None) ∷ (codes "00", None) ∷ (codes "-1", None)
    ∷ ([], None) ∷ []

each_of_positions : map (λ row. position_of row.0) positions ≡ map (λ row. row.1) positions
unfolding position_of
each_of_positions = refl

-- fields TARGET, and the targets that they are
abbrev targets : List (List ℕ × Option Target)
targets =
    (codes "top", Some Top)
    ∷ (codes "head:a\\tb", Some (Head (only (codes "a\tb"))))
    ∷ (codes "head:a/b", Some (Head (only (codes "a/b"))))
    ∷ (codes "head:T\\#2", Some (Head (nth 2 (codes "T"))))
    ∷ (codes "top\\#1", None)
    ∷ (codes "path:a/b\\sc", Some (Path (only (codes "a") ∷ only (codes "b/c") ∷ [])))
    ∷ (codes "path:", Some (Path (only [] ∷ [])))
    ∷ (codes "date", Some (Date []))
    ∷ (codes "date:Log", Some (Date (only (codes "Log") ∷ [])))
    ∷ (codes "date:", Some (Date (only [] ∷ [])))
    ∷ (codes "head:a\\x", None)
    ∷ (codes "tops", None)
    ∷ (codes "Date", None)
    ∷ []

each_of_targets : map (λ row. target_of row.0) targets ≡ map (λ row. row.1) targets
unfolding target_of path_of step_of
each_of_targets = refl

-- fields PLACE, and the places that they are
abbrev places : List (List ℕ × Option Place)
places = (codes "first", Some First) ∷ (codes "First", None) ∷ []

each_of_places : map (λ row. place_of row.0) places ≡ map (λ row. row.1) places
unfolding place_of
each_of_places = refl

-- fields MOMENT, and the moments that they are
abbrev moments : List (List ℕ × Option Moment)
moments =
    (codes "2026-07-01 10:00", Some (at_minute (civil_day 2026 7 1) 600))
    ∷ (codes "2026-02-29 10:00", None)
    ∷ (codes "2026-07-01 24:00", None)
    ∷ (codes "2026-7-01 10:00", None)
    ∷ []

each_of_moments : map (λ row. moment_of row.0) moments ≡ map (λ row. row.1) moments
unfolding moment_of
each_of_moments = refl

shows : is_utf8 (codes "inbox.org") ≡ true → command_of (codes "show\tinbox.org") ≡ Some (Ask (Show (codes "inbox.org")))
unfolding show_of file_of
shows utf8 = rw utf8 refl

captures : is_utf8 (codes "inbox.org") ≡ true → command_of (codes "capture\tinbox.org\ttop\tlast\t2026-07-01 10:00\t* TODO Call Ann\t")
    ≡ Some (Change (Capture (record { file = codes "inbox.org"; target = Top; place = Last; moment = at_minute (civil_day 2026 7 1) 600; template = codes "* TODO Call Ann"; initial = [] })))
unfolding capture_of file_of target_of place_of moment_of
captures utf8 = rw utf8 refl

refiles : is_utf8 (codes "a.org") ≡ true → is_utf8 (codes "b.org") ≡ true → command_of (codes "refile\ta.org\tA/B\tb.org\tT\tfirst")
    ≡ Some (Change (Refile (record { file = codes "a.org"; path = only (codes "A") ∷ only (codes "B") ∷ []; to_file = codes "b.org"; to_path = only (codes "T") ∷ []; place = First })))
unfolding refile_of file_of path_of step_of place_of
refiles a b = rw (a, b) refl

too_few_fields : command_of (codes "capture\ta.org") ≡ None
too_few_fields = refl

no_field : command_of [] ≡ None
no_field = refl

no_file_name : is_utf8 (codes "a.txt") ≡ true → command_of (codes "show\ta.txt") ≡ None
unfolding show_of file_of
no_file_name utf8 = rw utf8 refl

failed : answer_text (Err Device) 0 0 ≡ codes "fault Device\n"
failed = refl
