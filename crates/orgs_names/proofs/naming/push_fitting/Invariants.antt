use Rattle.std.proofs.Common.{◌≡◌, ◌++◌, map, filter}
use Rattle.std.specs.List.{range_with_len}
use Rattle.orgs_names.specs.Naming.{place_in}
use Rattle.orgs_names.specs.Ways.{fits}
use Rattle.orgs_names.proofs.naming.push_fitting.Given as goal

abbrev pub invariant-loop-heading : goal.invariant-loop-heading
invariant-loop-heading l = l.places.items ≡ l.initial.places.items ++ map (place_in l.file) (filter (fits l.way l.name l.entries) (range_with_len 0 l.heading))
