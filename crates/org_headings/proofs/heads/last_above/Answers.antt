use Rattle.org_headings.proofs.Levels.{last_found, last_passed}
use Rattle.org_headings.proofs.heads.last_above.Goals as goal

pub returns-then-headings-index-clause-value : goal.returns-then-headings-index-clause-value
returns-then-headings-index-clause-value c = last_found _ _ _ _ c.loop-index-test.true c.loop-index.auto.index c.if-headings-index.true c.loop-index.invariant

pub loop-index-preserved : goal.loop-index-preserved
loop-index-preserved c = last_passed _ _ _ _ c.loop-index-test.true c.loop-index.auto.index c.if-headings-index.false c.loop-index.invariant
