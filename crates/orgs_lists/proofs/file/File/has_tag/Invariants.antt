use Rattle.std.proofs.Common.{◌≡◌, ◌<◌, ◌++◌, ◌∷◌, [], suc}
use Rattle.std.specs.List.{list_any}
use Rattle.std.specs.Option.{ForSome, option_map_or}
use Rattle.org_outline.specs.Numbers.{ancestors_of}
use Rattle.org_outline.specs.Tree.{node_count, tree}
use Rattle.org_move.proofs.Above.{way_over}
use Rattle.orgs_lists.specs.Filters.{has_own_tag}
use Rattle.orgs_lists.proofs.file.File.has_tag.Given as goal

-- no heading below `next` has the tag
abbrev pub invariant-loop-next : goal.invariant-loop-next
invariant-loop-next l = record {
  there : ForSome l.next (λ i. i < node_count (tree l.self.entries.now.text));
  rest : list_any (has_own_tag l.self.entries.now l.tag) (ancestors_of (tree l.self.entries.now.text) l.index ++ l.index ∷ [])
      ≡ list_any (has_own_tag l.self.entries.now l.tag) (way_over (tree l.self.entries.now.text) l.next);
}

abbrev pub decreases-loop-next : goal.decreases-loop-next
decreases-loop-next l = option_map_or suc l.next 0
