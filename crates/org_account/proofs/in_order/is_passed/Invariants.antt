use Rattle.std.proofs.Common.{length}
use Rattle.std.specs.Prelude.{⊤}
use Rattle.org_account.proofs.in_order.is_passed.Given as goal

abbrev pub invariant-loop-left : goal.invariant-loop-left
invariant-loop-left l = ⊤

abbrev pub decreases-loop-left : goal.decreases-loop-left
decreases-loop-left l = length l.left
