use Rattle.std.proofs.Common.{◌≡◌, ◌++◌, ◌+◌, map, vec_len}
use Rattle.std.specs.List.{range_with_len}
use Rattle.org_outline.specs.Tree.{tree}
use Rattle.org_account.specs.Units.{entry_unit}
use Rattle.org_account.proofs.units.push_entries.Given as goal

abbrev pub invariant-loop-index : goal.invariant-loop-index
invariant-loop-index l = record {
  items : l.units.items ≡ l.initial.units.items ++ map (entry_unit l.at (tree l.outline.text)) (range_with_len 0 l.index);
  long : vec_len l.units ≡ vec_len l.initial.units + l.index;
}
