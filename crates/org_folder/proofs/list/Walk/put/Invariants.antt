use Rattle.std.specs.Prelude.{◌≡◌, ◌++◌, map, string_bytes, take}
use Rattle.org_folder.proofs.list.Walk.put.Given as goal

abbrev pub invariant-loop-entry : goal.invariant-loop-entry
invariant-loop-entry l =
    (map string_bytes l.self.todo.items ≡ map string_bytes l.fn.self.todo.items ++ map (λ entry. l.folder ++ entry) (map string_bytes (take l.entry-index l.entries)))
    × (l.self.names ≡ l.fn.self.names)
    × (l.self.nodes ≡ l.fn.self.nodes)
    × (l.self.links ≡ l.fn.self.links)
