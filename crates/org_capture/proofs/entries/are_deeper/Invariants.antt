use Rattle.std.proofs.Common.{length}
use Rattle.org_capture.proofs.OneHeading.{Deeper}
use Rattle.org_capture.proofs.entries.are_deeper.Given as goal

abbrev pub invariant-loop-line : goal.invariant-loop-line
invariant-loop-line l = Deeper l.level l.text l.rest

abbrev pub decreases-loop-line : goal.decreases-loop-line
decreases-loop-line l = length l.rest
