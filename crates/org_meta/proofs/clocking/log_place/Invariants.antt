use Rattle.std.proofs.Common.{length}
use Rattle.org_meta.proofs.Logs.{LogLater}
use Rattle.org_meta.proofs.clocking.log_place.Given as goal

abbrev pub invariant-loop-line : goal.invariant-loop-line
invariant-loop-line l = LogLater l.text.bytes.now l.left.bytes.now

abbrev pub decreases-loop-line : goal.decreases-loop-line
decreases-loop-line l = length l.left.bytes.now
