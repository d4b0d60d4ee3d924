use Rattle.std.proofs.Common.{drop}
use Rattle.org_splice.specs.Ranges.{cut_at}
use Rattle.org_splice.proofs.Joining.{IsJoinedSoFar}
use Rattle.org_splice.proofs.ranges.joined.Given as goal

abbrev pub invariant-loop-range : goal.invariant-loop-range
invariant-loop-range l = IsJoinedSoFar l.size l.fn.own (cut_at l.size l.ranges) l.all.items l.own (cut_at l.size (drop l.range-index l.ranges))
