use Rattle.std.proofs.Common.{◌≡◌, take}
use Rattle.orgs_names.specs.Naming.{fitting_from}
use Rattle.orgs_names.proofs.naming.fitting.Given as goal

abbrev pub invariant-loop-file : goal.invariant-loop-file
invariant-loop-file l = l.places.items ≡ fitting_from l.way l.name 0 (take l.file l.files)
