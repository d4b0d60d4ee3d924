use Rattle.std.proofs.Common.{ℕ, List, sym, ap, ◌∙◌}
use Rattle.std.specs.Str.{bytes_eq}
use Rattle.org_outline.specs.States.{Keywords}
use Rattle.org_state.specs.Keyword.{is_state}
use Rattle.org_state.proofs.Turning.{todo_answers}
use Rattle.org_state.proofs.changing.todo.Goals as goal

pub returns : goal.returns
returns c =
    todo_answers c.args.outline.now.states _ c.args.state.now c.args.now c.args.outline.now.text c.in_ok-node.node c.edits.result
    (sym c.find.ensures.value ∙ c.in_ok-node.was)
    (ap (λ (k : Keywords). is_state k c.args.state.now) (sym c.states.ensures.value) ∙ sym c.is_state.ensures ∙ c.if-not-is_state.false)
    (ap (λ (w : List ℕ). bytes_eq w c.args.state.now) (sym c.parts.ensures.keyword) ∙ sym c.if-eq.ensures)
    c.edits.ensures
