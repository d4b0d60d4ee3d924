use Rattle.std.proofs.Common.{◌≡◌, Some, true, false, sym, ap, ◌∙◌}
use Rattle.org_splice.specs.declared.edit.Edit.{Edit}
use Rattle.std.proofs.lemmas.Result.{err_from_is_err_and}
use Rattle.org_meta.specs.Planning.{PlanningLine, planning_of, has_repeater}
use Rattle.org_meta.proofs.Replanning.{repeat_none, repeat_odd, repeat_nothing, repeat_fault, repeat_gives}
use Rattle.org_meta.proofs.planning.repeat_planning.Goals as goal

pub returns-in_default-clause-ok : goal.returns-in_default-clause-ok
returns-in_default-clause-ok c = repeat_none c.args.section.bytes.now c.sections.result c.args.section.whole c.sections.ensures c.args.now c.in_default.ensures.none

pub returns-in_err-planning-clause-err : goal.returns-in_err-planning-clause-err
returns-in_err-planning-clause-err c =
    let p = err_from_is_err_and c.from_residual.result c.from_residual.ensures.1 in
    rw (p.1, p.2) (repeat_odd c.args.section.bytes.now c.sections.result c.args.section.whole c.sections.ensures c.args.now _ _ _ c.in-Some.ensures.some c.in_err-planning.ensures.err)

pub returns-then-not-has_repeater-clause-ok : goal.returns-then-not-has_repeater-clause-ok
returns-then-not-has_repeater-clause-ok c =
    let plan : PlanningLine = record { indentation = c.planning.inside.indentation.now; entries = c.planning.inside.entries.items; tail = c.planning.inside.tail.now } in
    let is : planning_of c.in-Some.text.now ≡ Some plan = c.in_ok-planning.ensures.ok ∙ sym (ap (λ p. Some p) c.planning.view_is) in
    let none : has_repeater plan.entries ≡ false = sym (ap has_repeater c.deref.ensures.value) ∙ sym c.has_repeater.ensures ∙ c.if-not-has_repeater.true in
    repeat_nothing c.args.section.bytes.now c.sections.result c.args.section.whole c.sections.ensures c.args.now c.in-Some.text.now c.in-Some._rest.bytes.now plan c.in-Some.ensures.some is none

pub returns-in_err-bytes-clause-err : goal.returns-in_err-bytes-clause-err
returns-in_err-bytes-clause-err c =
    let plan : PlanningLine = record { indentation = c.planning.inside.indentation.now; entries = c.planning.inside.entries.items; tail = c.planning.inside.tail.now } in
    let some : has_repeater plan.entries ≡ true = sym (ap has_repeater c.deref.ensures.value) ∙ sym c.has_repeater.ensures ∙ c.if-not-has_repeater.false in
    let p = err_from_is_err_and c.from_residual-in_err-bytes.result c.from_residual-in_err-bytes.ensures.1 in
    rw (p.1, p.2) (repeat_fault c.args.section.bytes.now c.sections.result c.args.section.whole c.sections.ensures c.args.now c.in-Some.text.now c.in-Some._rest.bytes.now c.in_ok-planning.planning _ c.in-Some.ensures.some c.in_ok-planning.ensures.ok
    (sym (ap (λ (p : PlanningLine). has_repeater p.entries) c.planning.view_is) ∙ some) c.in_err-bytes.ensures.err)

pub returns-clause-ok : goal.returns-clause-ok
returns-clause-ok c =
    let plan : PlanningLine = record { indentation = c.planning.inside.indentation.now; entries = c.planning.inside.entries.items; tail = c.planning.inside.tail.now } in
    let some : has_repeater plan.entries ≡ true = sym (ap has_repeater c.deref.ensures.value) ∙ sym c.has_repeater.ensures ∙ c.if-not-has_repeater.false in
    let repeated = c.in_ok-bytes.ensures.ok in
    repeat_gives c.args.section.bytes.now c.sections.result c.args.section.whole c.sections.ensures c.args.now _ c.in-Some.text.now c.in-Some._rest.bytes.now c.in_ok-planning.planning repeated.0 c.in-Some.ensures.some c.in_ok-planning.ensures.ok
    (sym (ap (λ (p : PlanningLine). has_repeater p.entries) c.planning.view_is) ∙ some) repeated.1 (ap (λ (e : Edit). e.at) c.replacing.ensures) (ap (λ (e : Edit). e.removed) c.replacing.ensures) (ap (λ (e : Edit). e.bytes) c.replacing.ensures ∙ repeated.2)
