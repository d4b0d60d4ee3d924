-- What a call answers that changes a state: what is defined, or that there was no memory.
use Rattle.std.specs.Prelude.{◌≡◌, ◌≢◌, ℕ, Option, None, Some, Result, Ok, Err, List, [], Vec}
use Rattle.std.specs.Global.{Global}
use Rattle.org_fault.specs.Faults.{IfRefusal}
use Rattle.org_fault.specs.declared.fault.Fault.{Fault}
use Rattle.org_fault.specs.declared.fault.Fault.TheVariants.{OutOfMemory, Refused}
use Rattle.org_fault.specs.declared.refusal.Refusal.{Refusal}
use Rattle.org_splice.specs.declared.edit.Edit.{Edit}
use Rattle.org_splice.specs.Edits.{AreEdits}
use Rattle.org_stamp.specs.Calendar.{Moment}
use Rattle.org_outline.specs.declared.steps.Step.{Step}
use Rattle.org_outline.specs.States.{Keywords}
use Rattle.org_outline.specs.Tree.{Document, print, tree}
use Rattle.org_state.specs.Todo.{Own, with_own_at, heading_to_change, IsTodo}

-- one edit or more, which make the print of this document of the text; no edit where nothing
-- changes
abbrev pub Makes : Option Document → List ℕ → List Edit → Type 0
Makes None text edits = edits ≡ []
Makes (Some new) text edits = (edits ≢ []) × AreEdits edits text (print new)

-- edits that make what is defined, or the refusal that is; memory is wanted only where a heading is
-- to change
abbrev pub AnswersTodo : Keywords → List Step → List ℕ → Moment → List ℕ
    → Result (Vec Edit Global) (Fault Refusal) → Type 0
AnswersTodo states path state now text (Ok edits) =
    (new : Option Document)
    × IsTodo states path state now (tree text) (Ok new)
    × Makes new text edits.items
AnswersTodo states path state now text (Err OutOfMemory) =
    (i : ℕ) × (heading_to_change states path state (tree text) ≡ Ok (Some i))
AnswersTodo states path state now text (Err (Refused why)) =
    IsTodo states path state now (tree text) (Err why)

-- edits of a text that give heading i the own lines that are defined, or the refusal that is,
-- unless memory ran out
abbrev pub AnswersOwn : (Result Own Refusal → Type 0) → List ℕ → ℕ
    → Result (Vec Edit Global) (Fault Refusal) → Type 0
AnswersOwn IsDefined text i (Ok edits) =
    (own : Own) × IsDefined (Ok own) × Makes (Some (with_own_at i (tree text) own)) text edits.items
AnswersOwn IsDefined text i (Err fault) = IfRefusal fault (λ why. IsDefined (Err why))
