use Rattle.std.proofs.Common.{◌≡◌, drop}
use Rattle.std.specs.List.{list_any}
use Rattle.org_folder.specs.Aliases.{is_same}
use Rattle.org_folder.proofs.aliases.is_among.Given as goal

abbrev pub invariant-loop-other : goal.invariant-loop-other
invariant-loop-other l = list_any (λ other. is_same other l.node) (drop l.other-index l.nodes) ≡ list_any (λ other. is_same other l.node) l.nodes
