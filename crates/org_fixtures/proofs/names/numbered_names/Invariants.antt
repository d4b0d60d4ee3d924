use Rattle.std.specs.List.{All}
use Rattle.org_disk.specs.Names.{IsOrgFile}
use Rattle.org_fixtures.proofs.names.numbered_names.Given as goal

abbrev pub invariant-loop-i : goal.invariant-loop-i
invariant-loop-i l = All IsOrgFile l.names.items
