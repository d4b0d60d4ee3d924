use Rattle.std.proofs.Common.{length}
use Rattle.org_move.proofs.Halves.{Cut}
use Rattle.org_move.proofs.locating.halves.Given as goal

abbrev pub invariant-loop-rest : goal.invariant-loop-rest
invariant-loop-rest l = Cut l.value l.left

abbrev pub decreases-loop-rest : goal.decreases-loop-rest
decreases-loop-rest l = length l.left
