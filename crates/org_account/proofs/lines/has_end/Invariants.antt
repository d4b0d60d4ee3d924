use Rattle.std.proofs.Common.{◌≡◌, length}
use Rattle.org_splice.specs.Lines.{lines_of}
use Rattle.org_account.specs.Text.{has_end}
use Rattle.org_account.proofs.lines.has_end.Given as goal

abbrev pub invariant-loop-left : goal.invariant-loop-left
invariant-loop-left l = has_end (lines_of l.left) ≡ has_end (lines_of l.text)

abbrev pub decreases-loop-left : goal.decreases-loop-left
decreases-loop-left l = length l.left
