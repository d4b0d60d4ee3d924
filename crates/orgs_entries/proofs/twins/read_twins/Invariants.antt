use Rattle.std.proofs.Common.{◌≡◌, map}
use Rattle.std.specs.List.{range_with_len}
use Rattle.org_outline.specs.Tree.{tree}
use Rattle.orgs_entries.specs.Twins.{has_twins}
use Rattle.orgs_entries.proofs.twins.read_twins.Given as goal

abbrev pub invariant-loop-index : goal.invariant-loop-index
invariant-loop-index l = l.twins.items ≡ map (has_twins l.outline.states (tree l.outline.text)) (range_with_len 0 l.index)
