use Rattle.org_outline.specs.Tree.{tree}
use Rattle.org_move.proofs.Targets.{Walk}
use Rattle.org_move.proofs.target.target_heading.Given as goal

abbrev pub invariant-loop-index : goal.invariant-loop-index
invariant-loop-index l = Walk l.outline.states l.to (tree l.outline.text) l.index l.found
