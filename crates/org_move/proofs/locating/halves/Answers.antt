use Rattle.org_move.proofs.Halves.{cut_next}
use Rattle.org_move.proofs.locating.halves.Goals as goal

pub loop-rest-preserved : goal.loop-rest-preserved
loop-rest-preserved c =
    cut_next _ _ _ c.in-Some.field-0-0.now c.loop-rest.invariant c.in-Some.ensures.cases.0 c.in_default-strip_prefix.ensures.cases
