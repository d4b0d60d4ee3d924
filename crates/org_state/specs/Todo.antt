-- Changes of a heading's TODO state (Org manual, "Basic TODO functionality", "Closing items",
-- "Repeated tasks").
use Rattle.std.specs.Prelude.{◌≡◌, ℕ, Bool, true, false, if◌then◌else◌, Option, None, Some, Result, Ok, Err, List, [], ◌∷◌, codes, slice_index_or}
use Rattle.std.specs.Result.{result_map_both}
use Rattle.std.specs.Str.{bytes_eq}
use Rattle.org_fault.specs.declared.refusal.Refusal.{Refusal}
use Rattle.org_fault.specs.declared.refusal.Refusal.TheVariants.{UnknownState}
use Rattle.org_stamp.specs.Calendar.{Moment}
use Rattle.org_outline.specs.declared.steps.Step.{Step}
use Rattle.org_outline.specs.declared.paths.PathFault.{PathFault}
use Rattle.org_outline.specs.States.{Keywords, has_word}
use Rattle.org_outline.specs.Tree.{Document, node_at}
use Rattle.org_outline.specs.Moves.{with_own_lines}
use Rattle.org_outline.specs.Paths.{find_path, refusal_of}
use Rattle.org_meta.specs.Moments.{moment_text}
use Rattle.org_meta.specs.Notes.{note_line, with_note}
use Rattle.org_meta.specs.Planning.{PlanningLine, planning_of, has_repeater, AreRepeated, repeated_entries, clear_closed, set_closed}
use Rattle.org_meta.specs.Replans.{repeated_line}
use Rattle.org_meta.specs.Sections.{SectionParts, split, joined, put}
use Rattle.org_state.specs.Keyword.{is_state, keyword_in, with_keyword}

-- ---- one heading

-- what a heading has of its own: the rest of its line, after the stars, and the lines of its
-- section
pub record Own : Type 0 where
  pub rest : List ℕ
  pub section : List (List ℕ)

-- own lines with this keyword and this section
abbrev pub with_lines : Keywords → List ℕ → Own → List (List ℕ) → Own
with_lines states word own section =
    record { rest = with_keyword states word own.rest; section = section }

-- those with the section of these parts, where they aren't refused
abbrev pub changed : Keywords → List ℕ → Own → Result SectionParts Refusal → Result Own Refusal
changed states word own parts =
    result_map_both (λ parts. with_lines states word own (joined parts)) (λ why. why) parts

-- the well formed planning line that repeats, if there is one
abbrev pub if_repeating : Option PlanningLine → Option PlanningLine
if_repeating None = None
if_repeating (Some p) = if has_repeater p.entries then Some p else None

abbrev pub repeating : List (List ℕ) → Option PlanningLine
repeating [] = None
repeating (l ∷ ls) = if_repeating (planning_of l)

-- the state that a repeated task goes back to
abbrev pub first_active : Keywords → List ℕ
first_active states = slice_index_or states.active 0 []

-- a section with its planning line repeated: the property LAST_REPEAT says when, and a note from
-- which state to which
abbrev pub repeated_parts : List ℕ → List ℕ → Moment → PlanningLine → SectionParts → List ℕ
    → SectionParts
repeated_parts new old now p parts text =
    with_note (note_line new old now)
    (put (codes "LAST_REPEAT") (moment_text now)
    (record parts { planning = repeated_line p text ∷ [] }))

-- An entry that turns done: it gets a CLOSED entry; but where its planning repeats, that is
-- repeated, and the keyword becomes the first active state.
abbrev pub TurnsDone : Keywords → List ℕ → Moment → Own → Option PlanningLine
    → Result Own Refusal → Type 0
TurnsDone states state now own None r =
    r ≡ changed states state own (set_closed now (split own.section))
TurnsDone states state now own (Some p) r =
    (text : Result (List ℕ) Refusal) × AreRepeated p.entries now text
    × (r
    ≡ changed states (first_active states) own
    (result_map_both (repeated_parts state (keyword_in states own.rest) now p (split own.section))
    (λ why. why) text))

-- One that is done and turns back loses its CLOSED entry. Any other change is that of the keyword
-- alone.
abbrev pub Turns : Bool → Bool → Keywords → List ℕ → Moment → Own → Result Own Refusal
    → Type 0
Turns true false states state now own r =
    r ≡ changed states state own (clear_closed (split own.section))
Turns false true states state now own r =
    TurnsDone states state now own (repeating (split own.section).planning) r
Turns was is states state now own r = r ≡ Ok (with_lines states state own own.section)

abbrev pub is_done : Keywords → List ℕ → Bool
is_done states word = has_word states.done word

-- the own lines with another state, or why there are none
abbrev pub IsChanged : Keywords → List ℕ → Moment → Own → Result Own Refusal → Type 0
IsChanged states state now own r =
    Turns (is_done states (keyword_in states own.rest))
    (is_done states state) states state now own r

-- ---- a document

abbrev pub own_at : Document → ℕ → Own
own_at d i = record { rest = (node_at d i).node.rest; section = (node_at d i).node.section }

abbrev pub with_own_at : ℕ → Document → Own → Document
with_own_at i d own = with_own_lines i own.rest own.section d

-- the heading that is to change, where there is one and the state is known; none where it has the
-- state already
abbrev pub heading_asked : Keywords → List ℕ → Document → Result ℕ PathFault
    → Result (Option ℕ) Refusal
heading_asked states state d (Err why) = Err (refusal_of why)
heading_asked states state d (Ok i) =
    if is_state states state
    then (if bytes_eq (keyword_in states (node_at d i).node.rest) state then Ok None
    else Ok (Some i))
    else Err UnknownState

abbrev pub heading_to_change : Keywords → List Step → List ℕ → Document
    → Result (Option ℕ) Refusal
heading_to_change states path state d = heading_asked states state d (find_path states d path)

abbrev pub IsTodoAt : Keywords → List ℕ → Moment → Document → Result (Option ℕ) Refusal
    → Result (Option Document) Refusal → Type 0
IsTodoAt states state now d (Err why) r = r ≡ Err why
IsTodoAt states state now d (Ok None) r = r ≡ Ok None
IsTodoAt states state now d (Ok (Some i)) r =
    (own : Result Own Refusal)
    × IsChanged states state now (own_at d i) own
    × (r ≡ result_map_both (λ own. Some (with_own_at i d own)) (λ why. why) own)

-- the document with the heading at a path in another state; none where nothing changes
abbrev pub IsTodo : Keywords → List Step → List ℕ → Moment → Document
    → Result (Option Document) Refusal → Type 0
IsTodo states path state now d r =
    IsTodoAt states state now d (heading_to_change states path state d) r

-- ---- the same, computed

abbrev pub turned_done : Keywords → List ℕ → Moment → Own → Option PlanningLine
    → Result Own Refusal
turned_done states state now own None =
    changed states state own (set_closed now (split own.section))
turned_done states state now own (Some p) =
    changed states (first_active states) own
    (result_map_both (repeated_parts state (keyword_in states own.rest) now p (split own.section))
    (λ why. why) (repeated_entries now p.entries))

abbrev pub turned : Bool → Bool → Keywords → List ℕ → Moment → Own → Result Own Refusal
turned true false states state now own = changed states state own (clear_closed (split own.section))
turned false true states state now own =
    turned_done states state now own (repeating (split own.section).planning)
turned was is states state now own = Ok (with_lines states state own own.section)

abbrev pub in_state : Keywords → List ℕ → Moment → Own → Result Own Refusal
in_state states state now own =
    turned (is_done states (keyword_in states own.rest)) (is_done states state) states state now own

abbrev pub todo_at : Keywords → List ℕ → Moment → Document → Result (Option ℕ) Refusal
    → Result (Option Document) Refusal
todo_at states state now d (Err why) = Err why
todo_at states state now d (Ok None) = Ok None
todo_at states state now d (Ok (Some i)) =
    result_map_both (λ own. Some (with_own_at i d own)) (λ why. why)
    (in_state states state now (own_at d i))

-- the document with the heading at a path in another state; none where nothing changes
abbrev pub todo : Keywords → List Step → List ℕ → Moment → Document
    → Result (Option Document) Refusal
todo states path state now d = todo_at states state now d (heading_to_change states path state d)
