use Rattle.std.proofs.Common.{◌-◌}
use Rattle.org_outline.specs.Tree.{tree, node_at}
use Rattle.org_outline.specs.Moves.{level_below}
use Rattle.org_capture.specs.Dates.{is_dated}
use Rattle.org_capture.proofs.Walk.{Walk}
use Rattle.org_capture.proofs.dates.first_dated.Given as goal

abbrev pub invariant-loop-index : goal.invariant-loop-index
invariant-loop-index l = Walk (tree l.outline.text) l.parent (λ i. is_dated l.outline.states (level_below l.parent (tree l.outline.text)) l.kind l.key l.wanted (node_at (tree l.outline.text) i).node) l.end l.index

abbrev pub decreases-loop-index : goal.decreases-loop-index
decreases-loop-index l = l.end - l.index
