use Rattle.std.specs.Prelude.{◌≡◌, None, map, string_bytes, take}
use Rattle.std.specs.List.{All}
use Rattle.org_disk.specs.Names.{IsOrgFile}
use Rattle.org_program.specs.Causes.{first_bad}
use Rattle.org_program.proofs.names.org_names.Given as goal

abbrev pub invariant-loop-text : goal.invariant-loop-text
invariant-loop-text l = All IsOrgFile l.names.items × (l.names.items ≡ map string_bytes (take l.text-index l.texts)) × (first_bad (map string_bytes (take l.text-index l.texts)) ≡ None)
