use Rattle.std.proofs.Common.{◌≡◌, ◌+◌, length}
use Rattle.org_account.specs.Text.{copies}
use Rattle.org_account.proofs.lines.copies.Given as goal

abbrev pub invariant-loop-line : goal.invariant-loop-line
invariant-loop-line l = l.count + copies l.line l.left ≡ copies l.line l.text

abbrev pub decreases-loop-line : goal.decreases-loop-line
decreases-loop-line l = length l.left
