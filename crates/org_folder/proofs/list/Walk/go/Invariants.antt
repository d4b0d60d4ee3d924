use Rattle.std.specs.Prelude.{List, map, string_bytes}
use Rattle.std.specs.List.{All}
use Rattle.org_disk.specs.Names.{IsOrgFile}
use Rattle.org_folder.specs.Calls.{Event, OnlyLooks}
use Rattle.org_folder.specs.Listing.{Walks}
use Rattle.org_folder.proofs.list.Walk.go.Given as goal

abbrev pub invariant-loop : goal.invariant-loop
invariant-loop g l =
    ((start : List Event) → Walks l.fn.self.names.items l.fn.self.nodes.items l.fn.self.links.items (map string_bytes l.fn.self.todo.items) start (g.S.System.history l.fn.system)
    → Walks l.self.names.items l.self.nodes.items l.self.links.items (map string_bytes l.self.todo.items) start (g.S.System.history l.system))
    × (All IsOrgFile l.fn.self.names.items → All IsOrgFile l.self.names.items)
    × (All (λ link. IsOrgFile link.name) l.fn.self.links.items → All (λ link. IsOrgFile link.name) l.self.links.items)
    × OnlyLooks (g.S.System.history l.fn.system) (g.S.System.history l.system)
