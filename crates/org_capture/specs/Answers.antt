-- What calls that can want memory answer: what is said, or that there was none.
use Rattle.std.specs.Prelude.{◌≡◌, ℕ, List, [], ◌∷◌, ◌++◌, Option, None, Some, Result, Ok, Err, Vec}
use Rattle.std.specs.Global.{Global}
use Rattle.org_fault.specs.declared.fault.Fault.{Fault}
use Rattle.org_fault.specs.declared.fault.Fault.TheVariants.{OutOfMemory, Refused}
use Rattle.org_fault.specs.declared.refusal.Refusal.{Refusal}
use Rattle.org_fault.specs.declared.refusal.Refusal.TheVariants.{BadTemplate}
use Rattle.org_splice.specs.declared.edit.Edit.{Edit}
use Rattle.org_splice.specs.Edits.{AreEdits}
use Rattle.org_outline.specs.Tree.{Document, print}

-- these bytes or this refusal, unless memory ran out
abbrev pub AnswersBytes : Result (List ℕ) Refusal → Result (Vec ℕ Global) (Fault Refusal)
    → Type 0
AnswersBytes said (Ok bytes) = said ≡ Ok bytes.items
AnswersBytes said (Err OutOfMemory) = Unit {0}
AnswersBytes said (Err (Refused why)) = said ≡ Err why

-- bytes are put after these, or the template is bad, unless memory ran out
abbrev pub Adds : {A : Type 0} → Option (List ℕ) → List ℕ → List ℕ → Result A (Fault Refusal)
    → Type 0
Adds said old new (Ok done) = (more : List ℕ) × (said ≡ Some more) × (new ≡ old ++ more)
Adds said old new (Err OutOfMemory) = Unit {0}
Adds said old new (Err (Refused why)) = (why ≡ BadTemplate) × (said ≡ None)

-- the edit puts bytes into the text and removes none, and makes the print of this document of it
pub record Makes (edit : Edit) (text : List ℕ) (new : Document) : Type 0 where
  pub removes_nothing : edit.removed ≡ 0
  pub edits : AreEdits (edit ∷ []) text (print new)

-- an edit that makes this document of the text, or this refusal, unless memory ran out
abbrev pub AnswersEdit : Result Document Refusal → List ℕ → Result Edit (Fault Refusal) → Type 0
AnswersEdit said text (Ok edit) = (new : Document) × (said ≡ Ok new) × Makes edit text new
AnswersEdit said text (Err OutOfMemory) = Unit {0}
AnswersEdit said text (Err (Refused why)) = said ≡ Err why
