use Rattle.std.specs.List.{All}
use Rattle.org_disk.specs.Names.{IsOrgFile}
use Rattle.org_fixtures.proofs.names.org_names.Given as goal

abbrev pub invariant-loop-text : goal.invariant-loop-text
invariant-loop-text l = All IsOrgFile l.names.items
