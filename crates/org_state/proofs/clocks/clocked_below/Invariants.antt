use Rattle.std.proofs.Common.{◌≡◌}
use Rattle.org_outline.specs.Tree.{tree}
use Rattle.org_state.proofs.Searches.{minutes_up_to}
use Rattle.org_state.proofs.clocks.clocked_below.Given as goal

abbrev pub invariant-loop-index : goal.invariant-loop-index
invariant-loop-index l = l.minutes ≡ minutes_up_to (tree l.outline.text) l.first l.index
