use Rattle.std.proofs.Common.{suc}
use Rattle.std.specs.Option.{option_map_or}
use Rattle.org_outline.specs.Tree.{tree}
use Rattle.org_move.proofs.Above.{Walk}
use Rattle.org_move.proofs.inherited.nearest.Given as goal

abbrev pub invariant-loop-next : goal.invariant-loop-next
invariant-loop-next l = Walk (tree l.outline.text) l.name l.fn.node l.next

abbrev pub decreases-loop-next : goal.decreases-loop-next
decreases-loop-next l = option_map_or suc l.next 0
