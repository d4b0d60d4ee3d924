use Rattle.org_account.proofs.Singles.{single_by, single_not}
use Rattle.org_account.proofs.union.is_single_line.Goals as goal

pub returns-then-not-is_single : goal.returns-then-not-is_single
returns-then-not-is_single c = λ yes. single_not c.args.texts.now c.args.line.now _ c.is_single.ensures c.if-not-is_single.true

pub returns : goal.returns
returns c = λ yes. single_by c.args.texts.now c.args.line.now (c.is_once.ensures c.if-not-is_once.false) (c.are_alone.ensures yes)
