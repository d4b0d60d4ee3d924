use Rattle.std.proofs.Common.{◌≡◌, take}
use Rattle.org_account.specs.Units.{units_from}
use Rattle.org_account.proofs.units.read_units.Given as goal

abbrev pub invariant-loop-file : goal.invariant-loop-file
invariant-loop-file l = l.units.items ≡ units_from 0 (take l.file-index l.files)
