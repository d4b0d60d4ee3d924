use Rattle.std.proofs.Common.{suc}
use Rattle.std.specs.Option.{option_map_or}
use Rattle.org_outline.specs.Parts.{parts_of}
use Rattle.org_outline.specs.Paths.{title_of}
use Rattle.org_outline.specs.Tree.{node_at, tree}
use Rattle.org_move.proofs.Above.{Climb}
use Rattle.org_move.proofs.inherited.titles_and_tags.Given as goal

abbrev pub invariant-loop-next : goal.invariant-loop-next
invariant-loop-next l =
    let d = tree l.outline.text in
    record {
      titles : Climb d (λ up. title_of l.outline.states (node_at d up).node.rest) l.fn.node l.next l.titles.items;
      tags : Climb d (λ up. (parts_of l.outline.states (node_at d up).node.rest).tags) l.fn.node l.next l.tags.items;
    }

abbrev pub decreases-loop-next : goal.decreases-loop-next
decreases-loop-next l = option_map_or suc l.next 0
