use Rattle.std.proofs.Common.{◌≡◌, ◌<◌, ℕ, false}
use Rattle.org_outline.specs.Tree.{node_at, tree}
use Rattle.org_state.specs.Clock.{runs_at}
use Rattle.org_state.proofs.clocks.running_among.Given as goal

abbrev pub invariant-loop-index : goal.invariant-loop-index
invariant-loop-index l = (k : ℕ) → k < l.index → runs_at (node_at (tree l.outline.text) k) ≡ false
