use Rattle.std.proofs.Common.{◌≡◌, map}
use Rattle.org_move.specs.Inherited.{nonempty_only, with_first}
use Rattle.org_move.proofs.Joins.{read}
use Rattle.org_move.proofs.inherited.push_tags.Given as goal

abbrev pub invariant-loop-tag : goal.invariant-loop-tag
invariant-loop-tag l = map read l.found.items ≡ with_first (map read l.initial.found.items) (nonempty_only (map read l.yielded))
