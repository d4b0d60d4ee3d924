use Rattle.std.proofs.Common.{◌≡◌, false, map}
use Rattle.std.specs.List.{list_any}
use Rattle.std.specs.Str.{bytes_eq}
use Rattle.org_move.specs.Inherited.{nonempty_only}
use Rattle.orgs_lists.proofs.inherited.has_tag_in.Given as goal

abbrev pub invariant-loop-word : goal.invariant-loop-word
invariant-loop-word l = list_any (bytes_eq l.tag) (nonempty_only (map (λ w. w.now) l.yielded)) ≡ false
