use Rattle.std.proofs.Common.{◌≡◌, drop}
use Rattle.std.specs.List.{list_any}
use Rattle.orgs_lists.specs.Filters.{has_tag}
use Rattle.orgs_lists.proofs.file.File.has_any_tag.Given as goal

abbrev pub invariant-loop-tag : goal.invariant-loop-tag
invariant-loop-tag l = list_any (has_tag l.self l.index) (drop l.tag-index l.tags) ≡ list_any (has_tag l.self l.index) l.tags
