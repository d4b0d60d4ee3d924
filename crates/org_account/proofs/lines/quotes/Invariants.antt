use Rattle.std.proofs.Common.{◌≡◌, ◌+◌, length}
use Rattle.org_account.specs.Text.{copies, quoted}
use Rattle.org_account.proofs.lines.quotes.Given as goal

abbrev pub invariant-loop-left : goal.invariant-loop-left
invariant-loop-left l = l.count + copies (quoted l.line) l.left ≡ copies (quoted l.line) l.text

abbrev pub decreases-loop-left : goal.decreases-loop-left
decreases-loop-left l = length l.left
