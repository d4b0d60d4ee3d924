use Rattle.std.proofs.Common.{length}
use Rattle.org_capture.proofs.date_trees.+push_dates.Given as goal

abbrev pub decreases-push_dates : goal.decreases-push_dates
decreases-push_dates l = length l.kinds.now
