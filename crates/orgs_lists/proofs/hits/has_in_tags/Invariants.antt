use Rattle.std.proofs.Common.{◌≡◌, false, map}
use Rattle.std.specs.List.{list_any}
use Rattle.org_move.specs.Inherited.{nonempty_only}
use Rattle.orgs_lists.specs.Hits.{has_text}
use Rattle.orgs_lists.proofs.hits.has_in_tags.Given as goal

abbrev pub invariant-loop-tag : goal.invariant-loop-tag
invariant-loop-tag l = list_any (has_text l.part) (nonempty_only (map (λ w. w.now) l.yielded)) ≡ false
