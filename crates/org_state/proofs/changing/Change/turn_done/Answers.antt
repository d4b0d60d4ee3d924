use Rattle.std.proofs.Common.{◌≡◌, ℕ, List, Option, None, sym, ap, subst, ◌∙◌}
use Rattle.std.proofs.lemmas.Result.{err_from_is_err_and}
use Rattle.org_splice.specs.Lines.{print_lines}
use Rattle.org_outline.specs.Tree.{tree, node_at}
use Rattle.org_meta.specs.Planning.{PlanningLine}
use Rattle.org_meta.specs.Sections.{split}
use Rattle.org_state.specs.Answers.{AnswersOwn}
use Rattle.org_state.specs.Todo.{own_at, repeating, TurnsDone}
use Rattle.org_state.proofs.Steps.{section_is_lines}
use Rattle.org_state.proofs.Turning.{repeat_refused, nothing_repeats}
use Rattle.org_state.proofs.changing.Change.turn_done.Goals as goal

pub returns-in_err-planning : goal.returns-in_err-planning
returns-in_err-planning c =
    let p = err_from_is_err_and c.from_residual.result c.from_residual.ensures.1 in
    let line = c.sections.ensures.planning ∙ ap (λ (ls : List (List ℕ)). print_lines (split ls).planning) c.section.ensures.lines in
    rw (p.1, p.2) (repeat_refused c.args.self.now.own.outline.now.states c.args.self.now.state.now c.args.self.now.moment (own_at (tree c.args.self.now.own.outline.now.text) c.args.self.now.own.node) c.sections.result.planning.bytes.now _ (section_is_lines c.args.self.now.own.outline.now.text c.args.self.now.own.node c.args.self.now.own.within) line c.in_err-planning.ensures.err)

pub returns-in-None : goal.returns-in-None
returns-in-None c =
    let line = c.sections.ensures.planning ∙ ap (λ (ls : List (List ℕ)). print_lines (split ls).planning) c.section.ensures.lines in
    let none : repeating (split (node_at (tree c.args.self.now.own.outline.now.text) c.args.self.now.own.node).node.section).planning ≡ None =
    nothing_repeats _ _ _ _ (section_is_lines c.args.self.now.own.outline.now.text c.args.self.now.own.node c.args.self.now.own.within) line c.in_ok-planning.ensures.ok c.in-None.is in
    subst (λ (o : Option PlanningLine). AnswersOwn (TurnsDone c.args.self.now.own.outline.now.states c.args.self.now.state.now c.args.self.now.moment (own_at (tree c.args.self.now.own.outline.now.text) c.args.self.now.own.node) o) c.args.self.now.own.outline.now.text c.args.self.now.own.node c.close.result) (sym none) c.close.ensures
