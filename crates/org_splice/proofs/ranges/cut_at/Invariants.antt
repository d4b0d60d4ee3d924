use Rattle.std.proofs.Common.{◌≡◌, ◌++◌, drop}
use Rattle.org_splice.specs.Ranges.{cut_at}
use Rattle.org_splice.proofs.ranges.cut_at.Given as goal

-- what is kept so far, and what is kept of the rest
abbrev pub invariant-loop-range : goal.invariant-loop-range
invariant-loop-range l = l.kept.items ++ cut_at l.size (drop l.range-index l.ranges) ≡ cut_at l.size l.ranges
