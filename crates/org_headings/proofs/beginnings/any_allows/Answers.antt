use Rattle.org_headings.proofs.Runs.{one_more_passed}
use Rattle.org_headings.proofs.beginnings.any_allows.Goals as goal

pub loop-line-preserved : goal.loop-line-preserved
loop-line-preserved c = λ fails. one_more_passed c.args.title c.args.lines.now _ _ c.loop-line.any _ c.loop-line.invariant c.loop-line-test.true c.allow-any.ensures fails
