use Rattle.std.proofs.Common.{◌-◌}
use Rattle.org_outline.specs.Paths.{find_headed}
use Rattle.org_outline.specs.Tree.{tree}
use Rattle.org_outline.proofs.PathWalk.{Heading_walk}
use Rattle.org_outline.proofs.outline.Outline.headed.Given as goal

abbrev pub invariant-loop-index : goal.invariant-loop-index
invariant-loop-index l = Heading_walk l.self.states l.self.text l.title (find_headed l.self.states (tree l.self.text) l.fn.step) l.index l.choice

abbrev pub decreases-loop-index : goal.decreases-loop-index
decreases-loop-index l = l.count - l.index
