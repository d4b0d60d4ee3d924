use Rattle.std.proofs.Common.{◌≡◌, ◌<◌, IfSome}
use Rattle.org_outline.specs.Outline.{node_headings}
use Rattle.orgs_entries.proofs.Upward.{above, through}
use Rattle.orgs_entries.proofs.parents.parent.Given as goal

-- no heading after `up` has a lower level
abbrev pub invariant-loop-up : goal.invariant-loop-up
invariant-loop-up l = record {
  before : IfSome l.up (λ up. up < l.index);
  passed : above l.level l.index (node_headings l.outline.text) ≡ above l.level (through l.up) (node_headings l.outline.text);
}

abbrev pub decreases-loop-up : goal.decreases-loop-up
decreases-loop-up l = through l.up
