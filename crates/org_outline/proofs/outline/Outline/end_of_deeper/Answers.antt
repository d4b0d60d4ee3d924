use Rattle.org_outline.proofs.Passing.{end_at_top}
use Rattle.org_outline.proofs.outline.Outline.end_of_deeper.Goals as goal

pub returns-then-level-eq0-clause-value : goal.returns-then-level-eq0-clause-value
returns-then-level-eq0-clause-value c = end_at_top c.args.self.now.text _ _ _ c.requires c.if-level-eq0.true c.count-count.ensures
