use Rattle.std.specs.Prelude.{◌≡◌, map, string_bytes, take}
use Rattle.org_folder.specs.Calls.{with_entries}
use Rattle.org_folder.proofs.system.calls_system.note_entries.Given as goal

abbrev pub invariant-loop-name : goal.invariant-loop-name
invariant-loop-name l = l.log.events ≡ with_entries (map string_bytes (take l.name-index l.names)) l.fn.log.events
