use Rattle.std.proofs.Common.{◌≡◌, drop}
use Rattle.std.specs.List.{list_all}
use Rattle.orgs_lists.specs.Filters.{has_tag}
use Rattle.orgs_lists.proofs.file.File.has_all_tags.Given as goal

abbrev pub invariant-loop-tag : goal.invariant-loop-tag
invariant-loop-tag l = list_all (has_tag l.self l.index) (drop l.tag-index l.tags) ≡ list_all (has_tag l.self l.index) l.tags
