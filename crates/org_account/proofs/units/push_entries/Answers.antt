use Rattle.std.proofs.Common.{arith}
use Rattle.org_outline.specs.Tree.{tree}
use Rattle.org_account.specs.Units.{entry_unit}
use Rattle.org_account.proofs.Files.{entry_more}
use Rattle.org_account.proofs.units.push_entries.Goals as goal

pub loop-index-preserved : goal.loop-index-preserved
loop-index-preserved c = record {
  items = entry_more (entry_unit c.args.at (tree c.args.outline.now.text)) _ _ _ c.loop-index.index _ _ c.in_ok-push.ensures.items c.loop-index.invariant.items c.entry.ensures c.node.ensures;
  long = omega (arith, c.in_ok-push.ensures.len, c.loop-index.invariant.long);
}
