use Rattle.std.proofs.Common.{All, IsFalse, IsTrue, take}
use Rattle.org_disk.specs.Names.{folders_on}
use Rattle.org_folder.specs.Calls.{OnlyEntries, has_entered}
use Rattle.org_folder.proofs.system.calls_system.CallsSystem.enter_way.Given as goal

abbrev pub invariant-loop-at : goal.invariant-loop-at
invariant-loop-at g l =
    (IsFalse l.self.has_failed → IsFalse l.fn.self.has_failed)
    × OnlyEntries (folders_on l.path) l.fn.self.log.events l.self.log.events
    × All (λ folder. IsTrue (has_entered folder l.self.log.events)) (folders_on (take l.at l.path))
