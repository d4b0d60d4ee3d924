use Rattle.std.proofs.Common.{sym, ◌∙◌}
use Rattle.org_capture.proofs.OneHeading.{deeper_on}
use Rattle.org_capture.proofs.entries.are_deeper.Goals as goal

pub loop-line-preserved : goal.loop-line-preserved
loop-line-preserved c =
    deeper_on _ _ _ c.in-Some.line.now c.in-Some.behind.now c.loop-line.invariant c.in-Some.ensures.lines c.in-Some.ensures.terminated (sym c.lies_deeper.ensures ∙ c.if-not-lies_deeper.false)
