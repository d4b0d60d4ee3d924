use Rattle.std.proofs.Common.{[], ◌∷◌, length, ap, ◌∙◌}
use Rattle.org_splice.specs.declared.edit.Edit.{Edit}
use Rattle.std.proofs.lemmas.Result.{err_from_is_err_and}
use Rattle.org_meta.specs.Planning.{closed_text, with_closed}
use Rattle.org_meta.proofs.Replanning.{plan_none, plan_line, plan_fault}
use Rattle.org_meta.proofs.planning.set_closed.Goals as goal

pub returns-in_default-clause-ok : goal.returns-in_default-clause-ok
returns-in_default-clause-ok c =
    plan_none c.args.section.bytes.now c.sections.result c.args.section.whole c.sections.ensures (closed_text c.args.now ∷ []) (λ p. with_closed c.args.now p ∷ []) _ c.in_default.ensures.none (ap (λ (e : Edit). e.at) c.replacing.ensures)
    (ap (λ (e : Edit). e.removed) c.replacing.ensures ∙ ap length c.in_default.ensures.none) (ap (λ (e : Edit). e.bytes) c.replacing.ensures ∙ c.in_ok-closed_line.ensures)

pub returns-in_err-planning-clause-err : goal.returns-in_err-planning-clause-err
returns-in_err-planning-clause-err c =
    let p = err_from_is_err_and c.from_residual-in_err-planning.result c.from_residual-in_err-planning.ensures.1 in
    rw (p.1, p.2) (plan_fault c.args.section.bytes.now c.sections.result c.args.section.whole c.sections.ensures (closed_text c.args.now ∷ []) (λ p. with_closed c.args.now p ∷ []) _ _ _ c.in-Some.ensures.some c.in_err-planning.ensures.err)

pub returns-clause-ok : goal.returns-clause-ok
returns-clause-ok c =
    plan_line c.args.section.bytes.now c.sections.result c.args.section.whole c.sections.ensures (closed_text c.args.now ∷ []) (λ p. with_closed c.args.now p ∷ []) _ c.in-Some.text.now c.in-Some._rest.bytes.now c.in_ok-planning.planning c.in-Some.ensures.some c.in_ok-planning.ensures.ok
    (ap (λ (e : Edit). e.at) c.replacing-2.ensures) (ap (λ (e : Edit). e.removed) c.replacing-2.ensures) (ap (λ (e : Edit). e.bytes) c.replacing-2.ensures ∙ c.in_ok-with_closed.ensures)
