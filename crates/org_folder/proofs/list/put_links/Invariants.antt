use Rattle.std.specs.Prelude.{◌≡◌, ◌++◌, take}
use Rattle.org_folder.specs.Listing.{names_of_links}
use Rattle.org_folder.proofs.list.put_links.Given as goal

abbrev pub invariant-loop-link : goal.invariant-loop-link
invariant-loop-link l = l.names.items ≡ l.fn.names.items ++ names_of_links l.nodes (take l.link-index l.links)
