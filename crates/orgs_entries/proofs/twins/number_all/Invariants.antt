use Rattle.std.proofs.Common.{◌≡◌, map}
use Rattle.std.specs.List.{range_with_len}
use Rattle.org_outline.specs.Tree.{tree}
use Rattle.orgs_entries.specs.Families.{AreCounted}
use Rattle.orgs_entries.specs.Twins.{number_of}
use Rattle.orgs_entries.proofs.twins.number_all.Given as goal

abbrev pub invariant-loop-index : goal.invariant-loop-index
invariant-loop-index l = record {
  numbers : l.numbers.items ≡ map (number_of l.outline.states (tree l.outline.text)) (range_with_len 0 l.index);
  counts : AreCounted l.families l.outline.states (tree l.outline.text) l.index;
}
