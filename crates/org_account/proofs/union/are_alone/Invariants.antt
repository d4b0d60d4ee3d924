use Rattle.std.proofs.Common.{length}
use Rattle.org_account.specs.Text.{EachLine, IsAlone}
use Rattle.org_account.proofs.union.are_alone.Given as goal

abbrev pub invariant-loop-left : goal.invariant-loop-left
invariant-loop-left l = EachLine (IsAlone l.texts l.line) l.left → EachLine (IsAlone l.texts l.line) l.texts.merged

abbrev pub decreases-loop-left : goal.decreases-loop-left
decreases-loop-left l = length l.left
