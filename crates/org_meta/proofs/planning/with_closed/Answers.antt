use Rattle.std.proofs.Common.{◌≡◌, true, sym, ap, ◌∙◌}
use Rattle.org_meta.specs.Planning.{PlanningLine, has_others}
use Rattle.org_meta.proofs.Replanning.{with_closed_bytes}
use Rattle.org_meta.proofs.planning.with_closed.Goals as goal

pub returns : goal.returns
returns c =
    let plan = c.args.planning.now in
    let others : has_others plan.entries ≡ true = ap (λ (p : PlanningLine). has_others p.entries) (sym c.planning.view_is) ∙ sym (ap has_others c.deref.ensures.value) ∙ sym c.has_others.ensures ∙ c.if-not-has_others.false in
    let indented = c.in_ok-bytes.ensures.items ∙ ap (λ (p : PlanningLine). p.indentation) c.planning.view_is in
    with_closed_bytes _ _ _ c.args.now plan indented c.in_ok-push_moment.ensures c.in_ok-push_others.ensures others
