use Rattle.std.proofs.Common.{◌≡◌}
use Rattle.org_outline.specs.Tree.{tree}
use Rattle.orgs_entries.specs.Twins.{parents_below}
use Rattle.orgs_entries.proofs.parents.read_parents.Given as goal

abbrev pub invariant-loop-index : goal.invariant-loop-index
invariant-loop-index l = l.parents.items ≡ parents_below (tree l.outline.text) l.index
