use Rattle.std.proofs.Common.{◌≤◌, ℕ, List, length}
use Rattle.org_account.specs.Text.{copies}
use Rattle.org_account.proofs.union.has_rival.Given as goal

abbrev pub invariant-loop-left : goal.invariant-loop-left
invariant-loop-left l = (other : List ℕ) → copies other l.left ≤ copies other l.text

abbrev pub decreases-loop-left : goal.decreases-loop-left
decreases-loop-left l = length l.left
