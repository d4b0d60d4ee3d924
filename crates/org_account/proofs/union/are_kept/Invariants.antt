use Rattle.std.proofs.Common.{length}
use Rattle.org_account.specs.Text.{EachLine, IsKeptLine}
use Rattle.org_account.proofs.union.are_kept.Given as goal

abbrev pub invariant-loop-left : goal.invariant-loop-left
invariant-loop-left l = EachLine (IsKeptLine l.texts) l.left → EachLine (IsKeptLine l.texts) l.side

abbrev pub decreases-loop-left : goal.decreases-loop-left
decreases-loop-left l = length l.left
