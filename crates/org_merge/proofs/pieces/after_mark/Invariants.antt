use Rattle.std.proofs.Common.{length}
use Rattle.org_merge.proofs.pieces.after_mark.Given as goal

abbrev pub decreases-loop-left : goal.decreases-loop-left
decreases-loop-left l = length l.left
