use Rattle.std.proofs.Common.{length}
use Rattle.org_account.specs.Text.{EachLine, IsSingleLine}
use Rattle.org_account.proofs.union.are_single.Given as goal

abbrev pub invariant-loop-left : goal.invariant-loop-left
invariant-loop-left l = EachLine (IsSingleLine l.texts) l.left → EachLine (IsSingleLine l.texts) l.texts.merged

abbrev pub decreases-loop-left : goal.decreases-loop-left
decreases-loop-left l = length l.left
