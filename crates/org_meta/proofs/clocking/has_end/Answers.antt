use Rattle.org_meta.proofs.Walk.{rest_shorter}
use Rattle.org_meta.proofs.clocking.has_end.Goals as goal

pub loop-line-smaller : goal.loop-line-smaller
loop-line-smaller c = rest_shorter _ _ _ c.in-Some.ensures.some
