use Rattle.std.proofs.Common.{◌-◌}
use Rattle.org_outline.specs.Paths.{the_one, titled_children}
use Rattle.org_outline.specs.Tree.{tree}
use Rattle.org_outline.proofs.Passing.{Child_search}
use Rattle.org_outline.proofs.outline.Outline.child.Given as goal

abbrev pub invariant-loop-index : goal.invariant-loop-index
invariant-loop-index l =
    Child_search l.self.states l.self.text l.title (the_one l.fn.step.number (titled_children l.self.states (tree l.self.text) l.fn.parent l.fn.step.title)) l.level l.first l.end l.deepest l.index l.choice

abbrev pub decreases-loop-index : goal.decreases-loop-index
decreases-loop-index l = l.end - l.index
