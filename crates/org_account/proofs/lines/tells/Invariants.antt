use Rattle.std.proofs.Common.{◌≤◌, ◌++◌, ℕ, List, length}
use Rattle.org_account.specs.Text.{copies}
use Rattle.org_account.proofs.lines.tells.Given as goal

abbrev pub invariant-loop-left : goal.invariant-loop-left
invariant-loop-left l = (fields : List ℕ) → copies (fields ++ (l.front ++ l.back)) l.left ≤ copies (fields ++ (l.front ++ l.back)) l.told

abbrev pub decreases-loop-left : goal.decreases-loop-left
decreases-loop-left l = length l.left
