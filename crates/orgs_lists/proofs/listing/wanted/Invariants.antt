use Rattle.std.proofs.Common.{◌≡◌, filter}
use Rattle.std.specs.List.{range_with_len}
use Rattle.orgs_lists.specs.Filters.{is_wanted}
use Rattle.orgs_lists.proofs.listing.wanted.Given as goal

abbrev pub invariant-loop-index : goal.invariant-loop-index
invariant-loop-index l = l.headings.items ≡ filter (is_wanted l.filter l.file) (range_with_len 0 l.index)
