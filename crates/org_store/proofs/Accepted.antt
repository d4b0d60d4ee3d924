-- A command that is to be accepted gives files of the store new texts, which are put in the places
-- of others.
use Rattle.std.proofs.Common.{◌≡◌, ◌⊎◌, inl, inr, sym, ◌∙◌, subst, ℕ, ◌-◌, ◌^◌, ◌==◌, ◌≤◌, nat_lt, length, map, Bool, true, false, List, [], ◌∷◌, Option, Some, None, Result, Ok, Err, refl, if◌then◌else◌, arith}
use Rattle.std.proofs.lemmas.Grind.{common_steps}
use Rattle.std.specs.List.{AllByRecursion}
use Rattle.std.specs.Option.{option_map, option_or, unwrap_or}
use Rattle.std.specs.Str.{bytes_eq}
use Rattle.std.proofs.lemmas.Bool.{cases_Bool}
use Rattle.std.proofs.lemmas.Bool.Decides.{nat_tests}
use Rattle.org_disk.proofs.Names.{same_name}
use Rattle.org_splice.specs.Replaced.{replaced}
use Rattle.org_outline.specs.declared.steps.Step.{Step}
use Rattle.org_outline.specs.declared.moves.Place.{Place}
use Rattle.org_outline.specs.declared.paths.PathFault.{PathFault}
use Rattle.org_outline.specs.Paths.{find_path}
use Rattle.org_outline.specs.Tree.{Document, Node, print, tree}
use Rattle.org_stamp.specs.Calendar.{Moment}
use Rattle.org_fileset.specs.Names.{limit}
use Rattle.org_capture.specs.declared.target.Target.{Target}
use Rattle.org_capture.specs.Capture.{captured}
use Rattle.org_move.specs.Archive.{archive_across, archive_within}
use Rattle.org_move.specs.Location.{Destination, location}
use Rattle.org_move.specs.Refile.{Moved, refile_across, refile_within}
use Rattle.org_state.specs.declared.run.Running.{Running}
use Rattle.org_state.specs.Clock.{clocked_at, running_in}
use Rattle.org_state.specs.Todo.{todo as in_state}
use Rattle.org_commands.specs.declared.command.Command.{Command}
use Rattle.org_commands.specs.declared.command.Command.TheVariants as command
use Rattle.org_commands.specs.declared.command.Change.{Change}
use Rattle.org_commands.specs.declared.command.Change.TheVariants.{Capture, Refile, Todo, ClockIn, ClockOut, Archive, Edit}
use Rattle.org_commands.specs.declared.command.Question.{Question}
use Rattle.org_commands.specs.declared.command.Question.TheVariants.{Time, Show}
use Rattle.org_fault.specs.declared.refusal.Refusal.{Refusal}
use Rattle.org_fault.specs.declared.refusal.Refusal.TheVariants.{TooLarge}
use Rattle.org_commands.specs.Capture.{new_entry}
use Rattle.org_commands.specs.Clocks.{running_over}
use Rattle.org_commands.specs.Clocking.{clocked_in, clocked_out, clock_moved}
use Rattle.org_commands.specs.Files.{has_large}
use Rattle.org_commands.specs.InOrder.{AreNames, is_name, text_at, with_all}
use Rattle.org_commands.specs.Refile.{text_within, texts_across}
use Rattle.org_commands.specs.Session.{Session}
use Rattle.org_commands.specs.Outcome.{Accepts, AsksToSettle, Outcome, Refuses, Shows, Reports, written, changed, with_document, with_entry, capture, refile, with_moved, with_minutes, with_replaced, with_state, time, todo, edit, with_clock_moved, clock_in_beside, clock_in, clock_out, archive_to, archive_at, archive, show, outcome, outcome_of_change, outcome_of_question}

-- texts of which none is past the limit
abbrev pub AreWithin : List (List ℕ × List ℕ) → Type 0
AreWithin changes = AllByRecursion (λ change. length change.1 ≤ limit) changes

-- the texts are the session's, with some that aren't past the limit in the places of others
abbrev pub Puts : Session → List (List ℕ) → Type 0
Puts s files = (changes : List (List ℕ × List ℕ)) × AreWithin changes × (with_all s.names s.files changes ≡ files)

pub within : (changes : List (List ℕ × List ℕ)) → has_large changes ≡ false → AreWithin changes
within [] none = tt
within (change ∷ changes) none = elim (cases_Bool (nat_lt limit (length change.1))) [
  | inl t ↦ let no : true ≡ false = rw t at none in absurd (cc)
  | inr f ↦ (grind (arith, nat_tests, f), within changes (rw f at none))
]

-- it gives files of the store new texts, or changes nothing, or is refused
abbrev pub IsChanging : Session → Outcome → Type 0
IsChanging s outcome =
    ((changes : List (List ℕ × List ℕ)) × AreNames s.names (map (λ change. change.0) changes) × (outcome ≡ changed s changes)) ⊎ ((why : Refusal) × (outcome ≡ Refuses why))

-- it answers something, or is refused
abbrev pub IsAnswering : Outcome → Type 0
IsAnswering (Shows text) = Unit {0}
IsAnswering (Reports minutes) = Unit {0}
IsAnswering (Refuses why) = Unit {0}
IsAnswering (Accepts touched files) = ⊥
IsAnswering AsksToSettle = ⊥

-- the file of a name that has a text
text_named : (names texts : List (List ℕ)) (name text : List ℕ) → text_at names texts name ≡ Some text → is_name names name ≡ true
text_named [] texts name text is = absurd (cc)
text_named (one ∷ names) [] name text is = absurd (cc)
text_named (one ∷ names) (t ∷ texts) name text is = elim (cases_Bool (bytes_eq one name)) [
  | inl t ↦ rw t refl
  | inr f ↦ rw f (text_named names texts name text (rw f at is))
]

-- the file in which a clock runs
clock_in_first : (one : List ℕ) (names : List (List ℕ)) (found : Option Running) (later : Option (List ℕ × Running)) (clock : List ℕ × Running)
    → option_or (option_map (λ running. (one, running)) found) later ≡ Some clock → (later ≡ Some clock → is_name names clock.0 ≡ true) → is_name (one ∷ names) clock.0 ≡ true
clock_in_first one names (Some running) later clock is behind = grind (arith, common_steps, same_name)
clock_in_first one names None later clock is behind = elim (cases_Bool (bytes_eq one clock.0)) [ inl t ↦ rw t refl | inr f ↦ rw f (behind is) ]

clock_named : (names texts : List (List ℕ)) (clock : List ℕ × Running) → running_over names texts ≡ Some clock → is_name names clock.0 ≡ true
clock_named [] texts clock is = absurd (cc)
clock_named (one ∷ names) [] clock is = absurd (cc)
clock_named (one ∷ names) (text ∷ texts) clock is = clock_in_first one names (running_in (tree text)) (running_over names texts) clock is (λ later. clock_named names texts clock later)

changes_one : (s : Session) (file text : List ℕ) → is_name s.names file ≡ true → IsChanging s (changed s ((file, text) ∷ []))
changes_one s file text own = inl ((file, text) ∷ [], (own, tt), refl)

changes_across : (s : Session) (file to_file : List ℕ) (new : Moved) → is_name s.names file ≡ true → is_name s.names to_file ≡ true → IsChanging s (changed s (texts_across file to_file new))
changes_across s file to_file new own to_own = inl (texts_across file to_file new, (own, (to_own, tt)), refl)

document_changes : (s : Session) (name : List ℕ) (made : Result Document Refusal) → is_name s.names name ≡ true → IsChanging s (with_document s name made)
document_changes s name (Err why) own = inr (_, refl)
document_changes s name (Ok new) own = changes_one s name (print new) own

entry_changes : (s : Session) (name : List ℕ) (target : Target) (place : Place) (moment : Moment) (entry : Result Node Refusal) (text : List ℕ) → is_name s.names name ≡ true
    → IsChanging s (with_entry s name target place moment entry text)
entry_changes s name target place moment (Err why) text own = inr (_, refl)
entry_changes s name target place moment (Ok entry) text own = document_changes s name (captured s.states target place moment entry (tree text)) own

capture_changes : (s : Session) (name : List ℕ) (target : Target) (place : Place) (moment : Moment) (template initial : List ℕ) (old : Option (List ℕ)) → text_at s.names s.files name ≡ old
    → IsChanging s (capture s name target place moment template initial old)
capture_changes s name target place moment template initial None is = inr (_, refl)
capture_changes s name target place moment template initial (Some text) is = entry_changes s name target place moment (new_entry moment template initial) text (text_named s.names s.files name text is)

within_changes : (s : Session) (name : List ℕ) (said : Result Document Refusal) → is_name s.names name ≡ true → IsChanging s (with_moved s (text_within name) said)
within_changes s name (Err why) own = inr (_, refl)
within_changes s name (Ok new) own = changes_one s name (print new) own

across_changes : (s : Session) (name to_file : List ℕ) (said : Result Moved Refusal) → is_name s.names name ≡ true → is_name s.names to_file ≡ true → IsChanging s (with_moved s (texts_across name to_file) said)
across_changes s name to_file (Err why) own to_own = inr (_, refl)
across_changes s name to_file (Ok new) own to_own = changes_across s name to_file new own to_own

refile_changes : (s : Session) (name : List ℕ) (path : List Step) (to_file : List ℕ) (to : List Step) (place : Place) (old into : Option (List ℕ)) → text_at s.names s.files name ≡ old → text_at s.names s.files to_file ≡ into
    → IsChanging s (refile s name path to_file to place old into)
refile_changes s name path to_file to place None into is to_is = inr (_, refl)
refile_changes s name path to_file to place (Some text) None is to_is = inr (_, refl)
refile_changes s name path to_file to place (Some text) (Some target) is to_is =
    let own = text_named s.names s.files name text is in
    elim (cases_Bool (bytes_eq name to_file)) [
      | inl t ↦ rw t (within_changes s name (refile_within s.states path to place (tree text)) own)
      | inr f ↦ rw f (across_changes s name to_file (refile_across s.states path (tree text) s.states to (tree target) place) own (text_named s.names s.files to_file target to_is))
    ]

state_changes : (s : Session) (name : List ℕ) (said : Result (Option Document) Refusal) → is_name s.names name ≡ true → IsChanging s (with_state s name said)
state_changes s name (Err why) own = inr (_, refl)
state_changes s name (Ok None) own = inl ([], tt, refl)
state_changes s name (Ok (Some new)) own = changes_one s name (print new) own

todo_changes : (s : Session) (name : List ℕ) (path : List Step) (state : List ℕ) (moment : Moment) (old : Option (List ℕ)) → text_at s.names s.files name ≡ old → IsChanging s (todo s name path state moment old)
todo_changes s name path state moment None is = inr (_, refl)
todo_changes s name path state moment (Some text) is = state_changes s name (in_state s.states path state moment (tree text)) (text_named s.names s.files name text is)

archive_to_changes : (s : Session) (name : List ℕ) (path : List Step) (moment : Moment) (text : List ℕ) (to : Destination) (into : Option (List ℕ)) → is_name s.names name ≡ true → text_at s.names s.files to.file ≡ into
    → IsChanging s (archive_to s name path moment text to into)
archive_to_changes s name path moment text to None own is = inr (_, refl)
archive_to_changes s name path moment text to (Some target) own is = elim (cases_Bool (bytes_eq name to.file)) [
  | inl t ↦ rw t (within_changes s name (archive_within s.states name path moment to (tree text)) own)
  | inr f ↦ rw f (across_changes s name to.file (archive_across s.states name path moment (tree text) s.states to (tree target)) own (text_named s.names s.files to.file target is))
]

archive_at_changes : (s : Session) (name : List ℕ) (path : List Step) (moment : Moment) (text : List ℕ) (to : Result Destination Refusal) → is_name s.names name ≡ true → IsChanging s (archive_at s name path moment text to)
archive_at_changes s name path moment text (Err why) own = inr (_, refl)
archive_at_changes s name path moment text (Ok to) own = archive_to_changes s name path moment text to (text_at s.names s.files to.file) own refl

archive_changes : (s : Session) (name : List ℕ) (path : List Step) (moment : Moment) (old : Option (List ℕ)) → text_at s.names s.files name ≡ old → IsChanging s (archive s name path moment old)
archive_changes s name path moment None is = inr (_, refl)
archive_changes s name path moment (Some text) is = archive_at_changes s name path moment text (location s.states name path text) (text_named s.names s.files name text is)

clock_moved_changes : (s : Session) (other name : List ℕ) (said : Result Moved Refusal) → is_name s.names other ≡ true → is_name s.names name ≡ true → IsChanging s (with_clock_moved s other name said)
clock_moved_changes s other name (Err why) other_own own = inr (_, refl)
clock_moved_changes s other name (Ok new) other_own own = changes_across s other name new other_own own

clock_in_beside_changes : (s : Session) (name : List ℕ) (moment : Moment) (d : Document) (found : Result ℕ PathFault) (clock : Option (List ℕ × Running)) → is_name s.names name ≡ true → running_over s.names s.files ≡ clock
    → IsChanging s (clock_in_beside s name moment d found clock)
clock_in_beside_changes s name moment d found None own is = state_changes s name (clocked_in moment None d found) own
clock_in_beside_changes s name moment d found (Some clock) own is = elim (cases_Bool (bytes_eq clock.0 name)) [
  | inl t ↦ rw t (state_changes s name (clocked_in moment (Some clock.1) d found) own)
  | inr f ↦ rw f (clock_moved_changes s clock.0 name (clock_moved moment clock.1 (tree (unwrap_or (text_at s.names s.files clock.0) [])) d found) (clock_named s.names s.files clock is) own)
]

clock_in_changes : (s : Session) (name : List ℕ) (path : List Step) (moment : Moment) (old : Option (List ℕ)) → text_at s.names s.files name ≡ old → IsChanging s (clock_in s name path moment old)
clock_in_changes s name path moment None is = inr (_, refl)
clock_in_changes s name path moment (Some text) is =
    clock_in_beside_changes s name moment (tree text) (find_path s.states (tree text) path) (running_over s.names s.files) (text_named s.names s.files name text is) refl

clock_out_changes : (s : Session) (moment : Moment) (clock : Option (List ℕ × Running)) → running_over s.names s.files ≡ clock → IsChanging s (clock_out s moment clock)
clock_out_changes s moment None is = inr (_, refl)
clock_out_changes s moment (Some clock) is = state_changes s clock.0 (clocked_out moment clock.1 (tree (unwrap_or (text_at s.names s.files clock.0) []))) (clock_named s.names s.files clock is)

replaced_changes : (s : Session) (name : List ℕ) (new : Option (List ℕ)) → is_name s.names name ≡ true → IsChanging s (with_replaced s name new)
replaced_changes s name None own = inr (_, refl)
replaced_changes s name (Some new) own = changes_one s name new own

edit_changes : (s : Session) (name : List ℕ) (at : ℕ) (gone put : List ℕ) (old : Option (List ℕ)) → text_at s.names s.files name ≡ old → IsChanging s (edit s name at gone put old)
edit_changes s name at gone put None is = inr (_, refl)
edit_changes s name at gone put (Some text) is = replaced_changes s name (replaced text at gone put) (text_named s.names s.files name text is)

show_answers : (old : Option (List ℕ)) → IsAnswering (show old)
show_answers None = tt
show_answers (Some text) = tt

minutes_answer : (said : Result ℕ PathFault) → IsAnswering (with_minutes said)
minutes_answer (Ok minutes) = tt
minutes_answer (Err why) = tt

time_answers : (s : Session) (path : List Step) (old : Option (List ℕ)) → IsAnswering (time s path old)
time_answers s path None = tt
time_answers s path (Some text) = minutes_answer (clocked_at s.states path (tree text))

pub change_changes : (s : Session) (change : Change) → IsChanging s (outcome_of_change s change)
change_changes s (Capture c) = capture_changes s c.file c.target c.place c.moment c.template c.initial (text_at s.names s.files c.file) refl
change_changes s (Refile c) = refile_changes s c.file c.path c.to_file c.to_path c.place (text_at s.names s.files c.file) (text_at s.names s.files c.to_file) refl refl
change_changes s (Todo c) = todo_changes s c.file c.path c.state c.moment (text_at s.names s.files c.file) refl
change_changes s (Archive c) = archive_changes s c.file c.path c.moment (text_at s.names s.files c.file) refl
change_changes s (ClockIn c) = clock_in_changes s c.file c.path c.moment (text_at s.names s.files c.file) refl
change_changes s (ClockOut moment) = clock_out_changes s moment (running_over s.names s.files) refl
change_changes s (Edit c) = edit_changes s c.file c.at c.old c.new (text_at s.names s.files c.file) refl

pub question_answers : (s : Session) (question : Question) → IsAnswering (outcome_of_question s question)
question_answers s (Time file path) = time_answers s path (text_at s.names s.files file)
question_answers s (Show file) = show_answers (text_at s.names s.files file)

-- a command that is accepted gives files of the store new texts
accepted_changes : (s : Session) (command : Command) {touched : List (List ℕ)} (files : List (List ℕ)) → outcome s command ≡ Accepts touched files
    → (changes : List (List ℕ × List ℕ)) × AreNames s.names (map (λ change. change.0) changes) × (changed s changes ≡ Accepts touched files)
accepted_changes s (command.Change change) files accepts = elim (change_changes s change) [
  | inl makes ↦ (makes.0, makes.1, sym makes.2 ∙ accepts)
  | inr refused ↦ absurd (subst IsAnswering (sym refused.1 ∙ accepts) tt)
]
accepted_changes s (command.Ask question) files accepts = absurd (subst IsAnswering accepts (question_answers s question))
accepted_changes s command.Settle files accepts = absurd (cc)

-- changes that are accepted
changed_accepts : (s : Session) (changes : List (List ℕ × List ℕ)) (touched files : List (List ℕ)) → changed s changes ≡ Accepts touched files
    → (has_large changes ≡ false) × (touched ≡ map (λ change. change.0) changes) × (with_all s.names s.files changes ≡ files)
changed_accepts s changes touched files = go (has_large changes) (s.accepted == 2 ^ 64 - 1)
  where
    go : (large full : Bool) → (if large then Refuses TooLarge else if full then Refuses TooLarge else Accepts (map (λ change. change.0) changes) (with_all s.names s.files changes)) ≡ Accepts touched files
        → (large ≡ false) × (touched ≡ map (λ change. change.0) changes) × (with_all s.names s.files changes ≡ files)
    go true full accepts = absurd (cc)
    go false true accepts = absurd (cc)
    go false false accepts = (refl, cc, cc)

pub accepted_puts : (s : Session) (command : Command) {touched : List (List ℕ)} (files : List (List ℕ)) → outcome s command ≡ Accepts touched files → Puts s files
accepted_puts s command {touched} files accepts =
    let makes = accepted_changes s command files accepts in
    let so = changed_accepts s makes.0 touched files makes.2 in
    (makes.0, within makes.0 so.0, so.2)

-- the files that a command is to give new texts are files of the store
pub written_named : (s : Session) (command : Command) → AreNames s.names (written (outcome s command))
written_named s command = go (outcome s command) refl
  where
    go : (does : Outcome) → outcome s command ≡ does → AreNames s.names (written does)
    go (Refuses why) is = tt
    go (Shows text) is = tt
    go (Reports minutes) is = tt
    go AsksToSettle is = tt
    go (Accepts touched files) is =
        let makes = accepted_changes s command files is in
        let so = changed_accepts s makes.0 touched files makes.2 in
        subst (AreNames s.names) (sym so.1) makes.1
