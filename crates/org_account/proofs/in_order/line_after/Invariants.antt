use Rattle.std.proofs.Common.{ℕ, List, length}
use Rattle.org_splice.specs.Lines.{lines_of}
use Rattle.org_account.specs.Text.{IsAfter}
use Rattle.org_account.proofs.in_order.line_after.Given as goal

abbrev pub invariant-loop-line : goal.invariant-loop-line
invariant-loop-line l = (more : List (List ℕ)) → IsAfter l.line (lines_of l.left) more → IsAfter l.line (lines_of l.text) more

abbrev pub decreases-loop-line : goal.decreases-loop-line
decreases-loop-line l = length l.left
