use Rattle.std.proofs.Common.{◌≡◌, [], map}
use Rattle.std.specs.List.{flat_map}
use Rattle.org_move.specs.Inherited.{first_ones, tag_list}
use Rattle.org_move.proofs.Joins.{firsts, read}
use Rattle.org_move.proofs.inherited.first_tags.Given as goal

abbrev pub invariant-loop-tags : goal.invariant-loop-tags
invariant-loop-tags l = map read l.found.items ≡ first_ones [] (flat_map tag_list (firsts l.all l.tags-index))
