use Rattle.std.proofs.Common.{sym, ◌∙◌, refl}
use Rattle.org_meta.proofs.Walk.{rest_shorter}
use Rattle.org_meta.proofs.Logs.{log_none, log_line, log_here, log_unended}
use Rattle.org_meta.proofs.clocking.log_place.Goals as goal

pub loop-line-init : goal.loop-line-init
loop-line-init c = log_none _

pub loop-line-preserved : goal.loop-line-preserved
loop-line-preserved c = log_line _ _ _ _ c.loop-line.invariant c.in-Some.ensures.some (sym c.is_mark.ensures ∙ c.if-is_mark.false)

pub returns-then-not-has_end-clause-none : goal.returns-then-not-has_end-clause-none
returns-then-not-has_end-clause-none c = λ line. log_unended _ _ _ _ line c.loop-line.invariant c.in-Some.ensures.some (sym c.has_end.ensures ∙ c.if-not-has_end.true)

pub returns-then-is_mark-clause-some : goal.returns-then-is_mark-clause-some
returns-then-is_mark-clause-some c =
    log_here _ _ _ _ _ c.loop-line.invariant c.in-Some.rest.whole c.in-Some.ensures.some (sym c.is_mark.ensures ∙ c.if-is_mark.true) (sym c.has_end.ensures ∙ c.if-not-has_end.false) refl refl

pub loop-line-smaller : goal.loop-line-smaller
loop-line-smaller c = rest_shorter _ _ _ c.in-Some.ensures.some
