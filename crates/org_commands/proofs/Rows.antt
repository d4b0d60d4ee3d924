-- The definitions of commands on worked examples.
use Rattle.std.proofs.Common.{◌≡◌, ℕ, false, List, [], ◌∷◌, ◌++◌, None, refl}
use Rattle.std.specs.Prelude.{codes}
use Rattle.org_outline.specs.declared.moves.Place.{Place}
use Rattle.org_outline.specs.declared.moves.Place.TheVariants.{First, Last}
use Rattle.org_capture.specs.declared.target.Target.TheVariants.{Top}
use Rattle.org_stamp.specs.Calendar.{Moment, at_minute, civil_day}
use Rattle.org_splice.specs.Lines.{print_lines}
use Rattle.org_move.specs.Counts.{count_over}
use Rattle.org_fault.specs.declared.refusal.Refusal.TheVariants.{NoSuchFile, BadTemplate, BadEntry, NotFound, InsideItself, NotThere}
use Rattle.org_outline.specs.declared.steps.Step.{Step}
use Rattle.org_outline.specs.States.{Keywords}
use Rattle.org_commands.specs.InOrder.{text_at}
use Rattle.org_commands.specs.declared.tally.Group.TheVariants.{Of}
use Rattle.org_commands.specs.Session.{Session}
use Rattle.org_commands.specs.Outcome.{Outcome, Refuses, Shows, Accepts, capture, edit, refile, show}

-- two files with these texts
abbrev store : List ℕ → List ℕ → Session
store a b =
    let files : List (List ℕ) = a ∷ b ∷ [] in
    let states : Keywords = record { active = codes "TODO" ∷ []; done = codes "DONE" ∷ [] } in
    record { states = states; names = codes "a.org" ∷ codes "b.org" ∷ []; files = files; settled = files; accepted = 0; acknowledged = 0; group = Of 1; broken = false }

abbrev moment : Moment
moment = at_minute (civil_day 2026 7 1) 600

abbrev captured_in : Session → List ℕ → List ℕ → Outcome
captured_in s name template = capture s name Top Last moment template [] (text_at s.names s.files name)

abbrev shown_in : Session → List ℕ → Outcome
shown_in s name = show (text_at s.names s.files name)

-- a line of these characters
abbrev line : List ℕ → List ℕ
line l = l ++ 10 ∷ []

abbrev edited_in : Session → List ℕ → ℕ → List ℕ → List ℕ → Outcome
edited_in s name at old new = edit s name at old new (text_at s.names s.files name)

absent_file : shown_in (store [] []) (codes "a.org") ≡ Shows []
absent_file = refl

into_an_empty_file : captured_in (store [] []) (codes "a.org") (codes "* TODO Call Ann") ≡ Accepts (codes "a.org" ∷ []) (line (codes "* TODO Call Ann") ∷ [] ∷ [])
into_an_empty_file = refl

only_the_changed_file_is_terminated : captured_in (store (codes "* A") (codes "* Z")) (codes "a.org") (codes "* B") ≡ Accepts (codes "a.org" ∷ []) ((line (codes "* A") ++ line (codes "* B")) ∷ codes "* Z" ∷ [])
only_the_changed_file_is_terminated = refl

below_level_one : captured_in (store [] []) (codes "a.org") (line (codes "** A") ++ codes "*** B") ≡ Accepts (codes "a.org" ∷ []) ((line (codes "* A") ++ line (codes "** B")) ∷ [] ∷ [])
below_level_one = refl

unknown_file : shown_in (store [] []) (codes "q.org") ≡ Refuses NoSuchFile
unknown_file = refl

escape : captured_in (store [] []) (codes "a.org") (codes "* %d") ≡ Refuses BadTemplate
escape = refl

no_heading : captured_in (store [] []) (codes "a.org") (codes "N") ≡ Refuses BadEntry
no_heading = refl

two_headings : captured_in (store [] []) (codes "a.org") (line (codes "* A") ++ codes "* B") ≡ Refuses BadEntry
two_headings = refl

unknown_file_before_escape : captured_in (store [] []) (codes "q.org") (codes "%d") ≡ Refuses NoSuchFile
unknown_file_before_escape = refl

-- ---- refiles

-- a step without a number
abbrev only : List ℕ → Step
only title = record { title = title; number = None }

abbrev refiled_in : Session → List ℕ → List Step → List ℕ → List Step → Place → Outcome
refiled_in s name path to_file to place = refile s name path to_file to place (text_at s.names s.files name) (text_at s.names s.files to_file)

-- skipped levels stay skipped
abbrev deep : List ℕ
deep = line (codes "* S") ++ line (codes "** B") ++ line (codes "**** C") ++ line (codes "* T") ++ line (codes "** U") ++ line (codes "*** V")

within_a_file : refiled_in (store deep []) (codes "a.org") (only (codes "S") ∷ only (codes "B") ∷ []) (codes "a.org") (only (codes "T") ∷ only (codes "U") ∷ only (codes "V") ∷ []) Last
    ≡ Accepts (codes "a.org" ∷ []) ((line (codes "* S") ++ line (codes "* T") ++ line (codes "** U") ++ line (codes "*** V") ++ line (codes "**** B") ++ line (codes "****** C")) ∷ [] ∷ [])
within_a_file = refl

-- both files are terminated
across_files : refiled_in (store (line (codes "* A") ++ line (codes "** B") ++ codes "b") (line (codes "* T") ++ codes "** K")) (codes "a.org") (only (codes "A") ∷ only (codes "B") ∷ []) (codes "b.org") (only (codes "T") ∷ []) First
    ≡ Accepts (codes "a.org" ∷ codes "b.org" ∷ []) (line (codes "* A") ∷ (line (codes "* T") ++ line (codes "** B") ++ line (codes "b") ++ line (codes "** K")) ∷ [])
across_files = refl

below_itself : refiled_in (store (line (codes "* A") ++ line (codes "** B")) []) (codes "a.org") (only (codes "A") ∷ []) (codes "a.org") (only (codes "A") ∷ only (codes "B") ∷ []) Last ≡ Refuses InsideItself
below_itself = refl

no_source_heading : refiled_in (store [] []) (codes "a.org") (only (codes "A") ∷ []) (codes "b.org") (only (codes "B") ∷ []) Last ≡ Refuses NotFound
no_source_heading = refl

unknown_target_before_path : refiled_in (store [] []) (codes "a.org") (only (codes "A") ∷ []) (codes "q.org") (only (codes "B") ∷ []) Last ≡ Refuses NoSuchFile
unknown_target_before_path = refl

-- ---- archivings

-- an entry with a child, whose location is a heading of another file that isn't there yet
abbrev located : List ℕ
located = line (codes "#+ARCHIVE: b.org::* Old") ++ line (codes "* A") ++ line (codes "x") ++ line (codes "** B")

abbrev properties : List (List ℕ)
properties = codes ":PROPERTIES:" ∷ codes ":ARCHIVE_TIME: 2026-07-01 Wed 10:00" ∷ codes ":ARCHIVE_FILE: a.org" ∷ codes ":ARCHIVE_CATEGORY: a" ∷ codes ":END:" ∷ []

-- both files once the entry is archived, written by hand
abbrev after_it : List (List ℕ)
after_it = line (codes "#+ARCHIVE: b.org::* Old") ∷ (line (codes "* Old") ++ line (codes "** A") ++ print_lines properties ++ line (codes "x") ++ line (codes "*** B")) ∷ []

-- how often a node is there over both files, before it and after it
abbrev counted : List ℕ → List (List ℕ) → ℕ × ℕ
counted rest section = (count_over rest section (located ∷ [] ∷ []), count_over rest section after_it)

entry_as_it_was : counted (codes " A") (codes "x" ∷ []) ≡ (1, 0)
entry_as_it_was = refl

entry_archived : counted (codes " A") (properties ++ codes "x" ∷ []) ≡ (0, 1)
entry_archived = refl

child_of_the_entry : counted (codes " B") [] ≡ (1, 1)
child_of_the_entry = refl

heading_made : counted (codes " Old") [] ≡ (0, 1)
heading_made = refl

no_newline_is_added : edited_in (store (codes "* A") []) (codes "a.org") 2 (codes "A") (codes "BC") ≡ Accepts (codes "a.org" ∷ []) (codes "* BC" ∷ [] ∷ [])
no_newline_is_added = refl

other_bytes_stand_there : edited_in (store (codes "* A") []) (codes "a.org") 2 (codes "B") (codes "C") ≡ Refuses NotThere
other_bytes_stand_there = refl

edit_at_the_end : edited_in (store (codes "* A") []) (codes "a.org") 3 [] (codes "x") ≡ Accepts (codes "a.org" ∷ []) (codes "* Ax" ∷ [] ∷ [])
edit_at_the_end = refl

edit_past_the_end : edited_in (store (codes "* A") []) (codes "a.org") 4 [] (codes "x") ≡ Refuses NotThere
edit_past_the_end = refl
