use Rattle.std.proofs.Common.{◌<◌, All, suc}
use Rattle.std.specs.Option.{ForSome, option_map_or}
use Rattle.org_outline.specs.Tree.{node_count, tree}
use Rattle.orgs_lists.proofs.paths.chain.Given as goal

abbrev pub invariant-loop-next : goal.invariant-loop-next
invariant-loop-next l = record {
  there : ForSome l.next (λ i. i < node_count (tree l.entries.text));
  all : All (λ i. i < node_count (tree l.entries.text)) l.chain.items;
}

abbrev pub decreases-loop-next : goal.decreases-loop-next
decreases-loop-next l = option_map_or suc l.next 0
