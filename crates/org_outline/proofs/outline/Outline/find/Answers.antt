use Rattle.std.proofs.lemmas.Result.{err_from_is_err_and}
use Rattle.org_outline.proofs.PathWalk.{path_start, path_found, path_fault, path_end, path_within}
use Rattle.org_outline.proofs.outline.Outline.find.Goals as goal

pub loop-step-init : goal.loop-step-init
loop-step-init c = path_start _ _ _

pub child-requires : goal.child-requires
child-requires c = c.loop-step.invariant.within

pub returns-in_err-child-clause-value : goal.returns-in_err-child-clause-value
returns-in_err-child-clause-value c =
    let p = err_from_is_err_and c.from_residual.result c.from_residual.ensures.1 in
    rw (p.1, p.2) (path_fault _ _ _ _ _ _ _ _ c.loop-step.invariant c.loop-step-test.true c.step-item.is c.child.ensures.value c.in_err-child.was)

pub loop-step-preserved : goal.loop-step-preserved
loop-step-preserved c =
    path_found _ _ _ _ _ _ _ _ c.loop-step.invariant c.loop-step-test.true c.step-item.is c.child.ensures.value c.in_ok-child.was c.in_ok-child.ensures.within

pub returns-clause-value : goal.returns-clause-value
returns-clause-value c = path_end _ _ _ _ _ _ c.loop-step.invariant c.loop-step-test.false c.ok_or.ensures.value

pub returns-clause-within : goal.returns-clause-within
returns-clause-within c = path_within _ _ _ _ _ _ c.loop-step.invariant c.ok_or.ensures.value
