use Rattle.std.proofs.Common.{[], sym, subst, List, ℕ, rules}
use Rattle.org_folder.specs.Calls.{AreAbsent}
use Rattle.org_disk_tests.proofs.folder.disk.Goals as goal

pub over-requires-clause-absent : goal.over-requires-clause-absent
over-requires-clause-absent g c =
    let world = g.S.Start.world in
    let calls = c.locked-system.result.log.events in
    let absent : AreAbsent world calls [] = record { looked = λ name none. search rules; empty = λ right name none. search rules } in
    subst (AreAbsent world calls) (sym c.new.ensures.empty) absent
