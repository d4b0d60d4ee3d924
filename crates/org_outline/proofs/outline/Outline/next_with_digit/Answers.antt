use Rattle.std.proofs.Common.{arith}
use Rattle.org_outline.proofs.Candidates.{passed_plain}
use Rattle.org_outline.proofs.outline.Outline.next_with_digit.Goals as goal

pub returns-clause-passed : goal.returns-clause-passed
returns-clause-passed c = λ i low high level.
    passed_plain c.args.self.now.states c.args.self.now.text c.args.first _ c.args.level c.count_before_digit.result i _ _ c.later.ensures c.split_at.ensures.front c.count_before_digit.ensures.count
    (omega (arith, c.requires.ordered, c.requires.within)) low high level
