use Rattle.std.proofs.Common.{◌≡◌, ◌<◌, ◌≤◌, length, reverse, take}
use Rattle.std.specs.Option.{ForSome}
use Rattle.org_outline.specs.Tree.{node_count, tree}
use Rattle.orgs_names.specs.Ways.{ends_above}
use Rattle.orgs_names.proofs.ends.ends_above.Given as goal

-- the titles from `left` on are those of headings, the next of which is `up`
abbrev pub invariant-loop-left : goal.invariant-loop-left
invariant-loop-left l = record {
  within : l.left ≤ length l.titles;
  there : ForSome l.up (λ i. i < node_count (tree l.entries.text));
  rest : ends_above l.entries.states (tree l.entries.text) (reverse l.titles) l.fn.up ≡ ends_above l.entries.states (tree l.entries.text) (reverse (take l.left l.titles)) l.up;
}

abbrev pub decreases-loop-left : goal.decreases-loop-left
decreases-loop-left l = l.left
