use Rattle.std.proofs.Common.{length}
use Rattle.org_move.specs.Location.{IsBehindOthers}
use Rattle.org_move.proofs.locating.first_archive_line.Given as goal

abbrev pub invariant-loop-line : goal.invariant-loop-line
invariant-loop-line l = IsBehindOthers l.text.bytes.now l.left.bytes.now

abbrev pub decreases-loop-line : goal.decreases-loop-line
decreases-loop-line l = length l.left.bytes.now
