-- Clocks of a document: the running clock, a clock that is opened or closed, and the time clocked
-- at a heading and below it (Org Syntax, "Clocks"; Org manual, "Clocking commands", "The clock
-- table").
use Rattle.std.specs.Prelude.{◌≡◌, ℕ, ◌+◌, ◌==◌, Vec, min, Bool, if◌then◌else◌, Option, None, Some, is_some, Result, Ok, Err, List, [], ◌∷◌}
use Rattle.std.specs.Global.{Global}
use Rattle.std.specs.List.{position, sum_by}
use Rattle.std.specs.Option.{option_map}
use Rattle.std.specs.Result.{result_map_both}
use Rattle.org_fault.specs.Faults.{IsWhyNot}
use Rattle.org_fault.specs.declared.fault.Fault.{Fault}
use Rattle.org_fault.specs.declared.fault.Fault.TheVariants.{OutOfMemory, Refused}
use Rattle.org_fault.specs.declared.refusal.Refusal.{Refusal}
use Rattle.org_splice.specs.declared.Span.{Span}
use Rattle.org_splice.specs.declared.edit.Edit.{Edit}
use Rattle.org_splice.specs.Edits.{AreEdits}
use Rattle.org_stamp.specs.Calendar.{Moment}
use Rattle.org_stamp.specs.Parts.{◌>>=◌}
use Rattle.org_outline.specs.declared.steps.Step.{Step}
use Rattle.org_outline.specs.declared.paths.PathFault.{PathFault}
use Rattle.org_outline.specs.States.{Keywords}
use Rattle.org_outline.specs.Tree.{Document, Placed, print, tree, nodes, node_at}
use Rattle.org_outline.specs.Moves.{with_own_lines}
use Rattle.org_outline.specs.Numbers.{weigh_node}
use Rattle.org_outline.specs.Paths.{find_path, refusal_of}
use Rattle.org_meta.specs.Clocks.{is_open, open_line, minutes_in}
use Rattle.org_meta.specs.Clocking.{opened, closed_line}
use Rattle.org_meta.specs.Sections.{split, joined}
use Rattle.org_state.specs.declared.run.Running.{Running}
use Rattle.org_state.specs.Edits.{section_start, EditsSection}
use Rattle.org_state.specs.Answers.{Makes}

-- ---- the running clock

-- its section has an open clock line
abbrev pub runs_at : Placed → Bool
runs_at p = is_some (open_line p.node.section)

-- the number of the first heading where a clock runs; what stands before the first heading isn't
-- looked at
abbrev pub running_heading : Document → Option ℕ
running_heading d = position runs_at (nodes d)

-- a span of a text that begins at `start`
abbrev pub span_from : ℕ → Span → Span
span_from start span = record { start = start + span.start; end = start + span.end }

-- the heading, and its first open clock line in the print
abbrev pub running_at : Document → ℕ → Option Running
running_at d i =
    option_map (λ span. record { heading = i; line = span_from (section_start d i) span })
    (open_line (node_at d i).node.section)

-- the first open clock line of the document
abbrev pub running_in : Document → Option Running
running_in d = running_heading d >>= running_at d

-- one runs in the text
abbrev pub has_clock : List ℕ → Bool
has_clock text = is_some (running_in (tree text))

-- ---- in

-- heading i with another section
abbrev pub with_section_at : ℕ → Document → List (List ℕ) → Document
with_section_at i d section = with_own_lines i (node_at d i).node.rest section d

-- its section with an open clock line
abbrev pub opened_section : Moment → Document → ℕ → List (List ℕ)
opened_section now d i = joined (opened now (split (node_at d i).node.section))

-- a clock opened at heading i; no other is closed
abbrev pub with_opened : Moment → ℕ → Document → Document
with_opened now i d = with_section_at i d (opened_section now d i)

-- ---- out

-- lines with the first open clock line closed, unless the moment is before its start
abbrev pub closed_first : Moment → List (List ℕ) → Result (List (List ℕ)) Refusal
closed_first now [] = Ok []
closed_first now (l ∷ ls) =
    if is_open l then result_map_both (λ closed. closed ∷ ls) (λ why. why) (closed_line now l)
    else result_map_both (λ more. l ∷ more) (λ why. why) (closed_first now ls)

-- the first clock that runs at heading i closed
abbrev pub with_closed : Moment → ℕ → Document → Result Document Refusal
with_closed now i d =
    result_map_both (with_section_at i d) (λ why. why)
    (closed_first now (node_at d i).node.section)

-- ---- in, where a clock runs

-- a clock opened at heading i, the one that runs at heading `from` closed; nothing changes where
-- both are one heading
abbrev pub switched : Moment → ℕ → Document → ℕ → Result (Option Document) Refusal
switched now from d i =
    if i == from then Ok None
    else result_map_both (λ closed. Some (with_opened now i closed)) (λ why. why)
    (with_closed now from d)

-- at the heading that was found
abbrev pub switched_at : Moment → ℕ → Document → Result ℕ PathFault
    → Result (Option Document) Refusal
switched_at now from d (Ok i) = switched now from d i
switched_at now from d (Err why) = Err (refusal_of why)

-- ---- the time clocked

-- the minutes of all closed clock lines of a heading and of those below it, at most 2^64 - 1
abbrev pub clocked_minutes : Document → ℕ → ℕ
clocked_minutes d i =
    min (weigh_node (λ rest section. sum_by minutes_in section)
    (node_at d i).node) 18_446_744_073_709_551_615

-- those of the heading at a path
abbrev pub clocked_at : Keywords → List Step → Document → Result ℕ PathFault
clocked_at states path d =
    result_map_both (clocked_minutes d) (λ why. why) (find_path states d path)

-- ---- what calls answer

-- an edit that closes the first clock that runs at heading i, or why it can't be closed; memory is
-- wanted only where it can
abbrev pub AnswersClosing : Moment → List ℕ → ℕ → Result Edit (Fault Refusal) → Type 0
AnswersClosing now text i (Ok edit) =
    (new : Document)
    × (with_closed now i (tree text) ≡ Ok new)
    × AreEdits (edit ∷ []) text (print new)
AnswersClosing now text i (Err fault) = IsWhyNot (with_closed now i (tree text)) fault

-- the same, by the section
abbrev pub ClosesSection : Moment → Document → ℕ → Result Edit (Fault Refusal) → Type 0
ClosesSection now d i (Ok edit) =
    (new : List (List ℕ))
    × (closed_first now (node_at d i).node.section ≡ Ok new)
    × EditsSection edit d i new
ClosesSection now d i (Err fault) = IsWhyNot (closed_first now (node_at d i).node.section) fault

-- edits that clock in at heading i, where a clock runs at heading `from`, or why that can't be;
-- memory is wanted only where something is to change
abbrev pub AnswersSwitch : Moment → List ℕ → ℕ → ℕ → Result (Vec Edit Global) (Fault Refusal)
    → Type 0
AnswersSwitch now text from i (Ok edits) =
    (new : Option Document)
    × (switched now from (tree text) i ≡ Ok new)
    × Makes new text edits.items
AnswersSwitch now text from i (Err OutOfMemory) =
    (new : Document) × (switched now from (tree text) i ≡ Ok (Some new))
AnswersSwitch now text from i (Err (Refused why)) = switched now from (tree text) i ≡ Err why
