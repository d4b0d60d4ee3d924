use Rattle.std.proofs.Common.{length}
use Rattle.org_move.proofs.Halves.{Names}
use Rattle.org_move.proofs.locating.with_name.Given as goal

abbrev pub invariant-loop-first : goal.invariant-loop-first
invariant-loop-first l = Names l.name l.text l.made.items l.left

abbrev pub decreases-loop-first : goal.decreases-loop-first
decreases-loop-first l = length l.left
