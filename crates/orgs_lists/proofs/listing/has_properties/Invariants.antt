use Rattle.std.proofs.Common.{◌≡◌, drop}
use Rattle.std.specs.List.{list_all}
use Rattle.orgs_lists.specs.Filters.{has_property}
use Rattle.orgs_lists.proofs.listing.has_properties.Given as goal

abbrev pub invariant-loop-property : goal.invariant-loop-property
invariant-loop-property l = list_all (has_property l.entries l.index) (drop l.property-index l.properties) ≡ list_all (has_property l.entries l.index) l.properties
