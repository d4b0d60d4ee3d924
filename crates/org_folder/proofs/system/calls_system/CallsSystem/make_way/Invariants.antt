use Rattle.std.proofs.Common.{true}
use Rattle.org_disk.specs.Names.{folders_on}
use Rattle.org_folder.specs.Calls.{MakesFolders}
use Rattle.org_folder.proofs.system.calls_system.CallsSystem.make_way.Given as goal

abbrev pub invariant-loop-at : goal.invariant-loop-at
invariant-loop-at g l = MakesFolders (folders_on l.path) true l.fn.self.log.events l.self.log.events
