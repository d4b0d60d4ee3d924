use Rattle.std.proofs.Common.{◌≡◌, ◌<◌, ◌≤◌, Some, length, reverse, take}
use Rattle.std.specs.Option.{ForSome}
use Rattle.org_outline.specs.Tree.{node_count, tree}
use Rattle.orgs_entries.specs.Paths.{leads}
use Rattle.orgs_entries.proofs.entries.Entries.is_led_to.Given as goal

-- the steps from `left` on lead up to `at`
abbrev pub invariant-loop-left : goal.invariant-loop-left
invariant-loop-left l = record {
  within : l.left ≤ length l.path;
  there : ForSome l.at (λ i. i < node_count (tree l.self.text));
  rest : leads l.self.states (tree l.self.text) (reverse l.path) (Some l.index) ≡ leads l.self.states (tree l.self.text) (reverse (take l.left l.path)) l.at;
}

abbrev pub decreases-loop-left : goal.decreases-loop-left
decreases-loop-left l = l.left
