use Rattle.std.proofs.Common.{◌-◌, length}
use Rattle.org_outline.proofs.Shifting.{Shifting}
use Rattle.org_outline.proofs.moves.shift.Given as goal

abbrev pub invariant-loop-length : goal.invariant-loop-length
invariant-loop-length l = Shifting l.bytes l.root l.level l.start l.shifted.items

abbrev pub decreases-loop-length : goal.decreases-loop-length
decreases-loop-length l = length l.bytes - l.start
