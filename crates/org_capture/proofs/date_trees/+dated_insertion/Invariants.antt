use Rattle.std.proofs.Common.{length}
use Rattle.org_capture.proofs.date_trees.+dated_insertion.Given as goal

abbrev pub decreases-dated_insertion : goal.decreases-dated_insertion
decreases-dated_insertion l = length l.kinds.now
