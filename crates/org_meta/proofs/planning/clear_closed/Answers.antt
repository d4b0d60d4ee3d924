use Rattle.std.proofs.Common.{[], sym, ap, Some, ◌∙◌, true, false, ◌≡◌}
use Rattle.org_splice.specs.declared.edit.Edit.{Edit}
use Rattle.std.proofs.lemmas.Result.{err_from_is_err_and}
use Rattle.org_meta.specs.Planning.{PlanningLine, planning_of, without_closed, has_closed}
use Rattle.std.proofs.lemmas.Bool.{false≢true}
use Rattle.org_meta.proofs.Replanning.{plan_line, plan_fault, none_cleared, nothing_cleared, closed_there}
use Rattle.org_meta.proofs.planning.clear_closed.Goals as goal

pub returns-in_default-clause-ok : goal.returns-in_default-clause-ok
returns-in_default-clause-ok c = none_cleared c.args.section.bytes.now c.sections.result c.args.section.whole c.sections.ensures _ c.in_default.ensures.none c.nothing.ensures

pub returns-in_err-planning-clause-err : goal.returns-in_err-planning-clause-err
returns-in_err-planning-clause-err c =
    let p = err_from_is_err_and c.from_residual.result c.from_residual.ensures.1 in
    rw (p.1, p.2) (plan_fault c.args.section.bytes.now c.sections.result c.args.section.whole c.sections.ensures [] without_closed _ _ _ c.in-Some.ensures.some c.in_err-planning.ensures.err)

pub returns-clause-ok : goal.returns-clause-ok
returns-clause-ok c =
    plan_line c.args.section.bytes.now c.sections.result c.args.section.whole c.sections.ensures [] without_closed _ c.in-Some.text.now c.in-Some._rest.bytes.now c.in_ok-planning.planning c.in-Some.ensures.some c.in_ok-planning.ensures.ok
    (ap (λ (e : Edit). e.at) c.replacing.ensures) (ap (λ (e : Edit). e.removed) c.replacing.ensures) (ap (λ (e : Edit). e.bytes) c.replacing.ensures ∙ c.in_ok-without_closed.ensures)

pub returns-then-not-has_closed-clause-ok : goal.returns-then-not-has_closed-clause-ok
returns-then-not-has_closed-clause-ok c =
    let plan : PlanningLine = record { indentation = c.planning.inside.indentation.now; entries = c.planning.inside.entries.items; tail = c.planning.inside.tail.now } in
    let is : planning_of c.in-Some.text.now ≡ Some plan = c.in_ok-planning.ensures.ok ∙ sym (ap (λ p. Some p) c.planning.view_is) in
    let none : has_closed plan.entries ≡ false = sym (ap has_closed c.deref.ensures.value) ∙ sym c.has_closed.ensures ∙ c.if-not-has_closed.true in
    nothing_cleared c.args.section.bytes.now c.sections.result c.args.section.whole c.sections.ensures _ c.in-Some.text.now c.in-Some._rest.bytes.now plan c.in-Some.ensures.some is none c.nothing-then-not-has_closed.ensures

pub returns-clause-nothing : goal.returns-clause-nothing
returns-clause-nothing c =
    let plan : PlanningLine = record { indentation = c.planning.inside.indentation.now; entries = c.planning.inside.entries.items; tail = c.planning.inside.tail.now } in
    let is : planning_of c.in-Some.text.now ≡ Some plan = c.in_ok-planning.ensures.ok ∙ sym (ap (λ p. Some p) c.planning.view_is) in
    let some : has_closed plan.entries ≡ true = sym (ap has_closed c.deref.ensures.value) ∙ sym c.has_closed.ensures ∙ c.if-not-has_closed.false in
    let there = closed_there c.args.section.bytes.now c.sections.result c.args.section.whole c.sections.ensures c.in-Some.text.now c.in-Some._rest.bytes.now plan c.in-Some.ensures.some is in
    λ none. absurd (false≢true (sym none ∙ there ∙ some))
