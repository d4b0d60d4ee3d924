use Rattle.std.proofs.Common.{◌≡◌, Ok, Err, List, ℕ, Result, Vec, subst}
use Rattle.std.specs.Global.{Global}
use Rattle.org_outline.specs.declared.steps.Step.{Step}
use Rattle.org_splice.specs.declared.edit.Edit.{Edit}
use Rattle.org_outline.specs.States.{Keywords}
use Rattle.org_outline.specs.Tree.{tree}
use Rattle.org_stamp.specs.Calendar.{Moment}
use Rattle.org_fault.specs.declared.fault.Fault.{Fault}
use Rattle.org_fault.specs.declared.refusal.Refusal.{Refusal}
use Rattle.org_state.specs.Answers.{AnswersTodo}
use Rattle.org_state.specs.Todo.{todo}
use Rattle.org_commands.proofs.Todos.{plan_made, state_made, state_refused, state_stays}
use Rattle.org_commands.proofs.Handing.{handed_on}
use Rattle.org_commands.proofs.commands.todo.plan_state.Goals as goal

-- an answer, by what the outline and the slices are
reported : (states given : Keywords) (path titles : List Step) (state word : List ℕ) (now : Moment) (text seen : List ℕ) (answer : Result (Vec Edit Global) (Fault Refusal)) → given ≡ states → titles ≡ path → word ≡ state → seen ≡ text
    → AnswersTodo given titles word now seen answer → AnswersTodo states path state now text answer
reported states given path titles state word now text seen answer s p w t answers =
    subst (λ (k : Keywords). AnswersTodo k path state now text answer) s
    (subst (λ (ts : List Step). AnswersTodo given ts state now text answer) p
    (subst (λ (b : List ℕ). AnswersTodo given titles b now text answer) w
    (subst (λ (b : List ℕ). AnswersTodo given titles word now b answer) t answers)))

pub returns-in_err-edits : goal.returns-in_err-edits
returns-in_err-edits c =
    let a = c.args in
    let why = c.in_err-edits.field-0.0 in
    let given : c.from_residual.result ≡ Err why = handed_on c.from_residual.result _ c.from_residual.ensures.1 in
    let answers = reported a.states.now c.outline_of.result.states a.command.now.path c.as_slice.result.now a.command.now.state c.as_slice-2.result.now a.command.now.moment a.held.now.text.bytes c.outline_of.result.text (Err why)
    c.outline_of.ensures.1 c.as_slice.ensures c.as_slice-2.ensures c.outline_of.ensures.0 c.in_err-edits.ensures in
    state_refused a.states.now a.command.now.path a.command.now.state a.command.now.moment a.held.now.text.bytes a.command.now.file c.from_residual.result why given answers

pub returns : goal.returns
returns c =
    let a = c.args in
    let edits = c.in_ok-edits.edits in
    let answers = reported a.states.now c.outline_of.result.states a.command.now.path c.as_slice.result.now a.command.now.state c.as_slice-2.result.now a.command.now.moment a.held.now.text.bytes c.outline_of.result.text (Ok edits)
    c.outline_of.ensures.1 c.as_slice.ensures c.as_slice-2.ensures c.outline_of.ensures.0 c.in_ok-edits.ensures in
    plan_made a.command.now.file a.held.now.text.bytes (todo a.states.now a.command.now.path a.command.now.state a.command.now.moment (tree a.held.now.text.bytes)) edits.items c.plan_of.result c.plan_of.ensures.none c.plan_of.ensures.some
    (λ none. state_stays a.states.now a.command.now.path a.command.now.state a.command.now.moment a.held.now.text.bytes edits none answers)
    (λ some. state_made a.states.now a.command.now.path a.command.now.state a.command.now.moment a.held.now.text.bytes edits some answers)
