use Rattle.std.proofs.Common.{◌≤◌, ℕ, List, length}
use Rattle.org_account.specs.Text.{copies}
use Rattle.org_account.proofs.lines.is_conflict.Given as goal

abbrev pub invariant-loop-left : goal.invariant-loop-left
invariant-loop-left l = (line : List ℕ) → copies line l.left ≤ copies line l.told

abbrev pub decreases-loop-left : goal.decreases-loop-left
decreases-loop-left l = length l.left
