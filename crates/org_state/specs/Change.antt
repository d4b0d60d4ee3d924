-- A heading that is to get another state, as the code has it.
use Rattle.std.specs.Prelude.{Result, Vec}
use Rattle.std.specs.Global.{Global}
use Rattle.org_fault.specs.declared.fault.Fault.{Fault}
use Rattle.org_fault.specs.declared.refusal.Refusal.{Refusal}
use Rattle.org_splice.specs.declared.edit.Edit.{Edit}
use Rattle.org_outline.specs.States.{Keywords}
use Rattle.org_state.specs.declared.changing.Change.{Change}
use Rattle.org_state.specs.Answers.{AnswersOwn}
use Rattle.org_state.specs.Todo.{Own}

abbrev pub states_of : Change → Keywords
states_of change = change.own.outline.now.states

-- edits that give it the own lines that are defined, or the refusal that is, unless memory
-- ran out
abbrev pub AnswersChange : (Result Own Refusal → Type 0) → Change
    → Result (Vec Edit Global) (Fault Refusal) → Type 0
AnswersChange IsDefined change result =
    AnswersOwn IsDefined change.own.outline.now.text change.own.node result
