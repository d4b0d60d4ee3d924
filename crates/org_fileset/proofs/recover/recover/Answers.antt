use Rattle.std.proofs.Common.{ap, List, ℕ}
use Rattle.org_disk.specs.Disk.{FileState}
use Rattle.org_journal.specs.Recovered.{contents}
use Rattle.org_fileset.proofs.Sets.{passed_never}
use Rattle.org_fileset.proofs.Strange.{fault_over}
use Rattle.org_fileset.proofs.Reopening.{looked_of, looked_then, refused_reopens}
use Rattle.org_fileset.proofs.recover.recover.Goals as goal

pub returns-in_err-write_gate_again-clause-reopens : goal.returns-in_err-write_gate_again-clause-reopens
returns-in_err-write_gate_again-clause-reopens g c ended =
    let d = g.D.Disk in
    let old = c.args.disk.now in
    let honest = c.write_gate_again.ensures.accounts.was_honest ended in
    refused_reopens d old (λ image left. g.met.D.Disk.only_now old image honest left) c.write_gate_again.new.disk c.from_residual.result
    (looked_of d old c.write_gate_again.new.disk (c.write_gate_again.ensures.looks ended)) (passed_never _ _ c.from_residual.result c.from_residual.ensures.1)

pub returns-clause-reopens : goal.returns-clause-reopens
returns-clause-reopens g c ended =
    let d = g.D.Disk in
    let old = c.args.disk.now in
    let mid = c.recover_found.ensures.accounts.was_honest ended in
    let honest = c.write_gate_again.ensures.accounts.was_honest mid in
    let looks = c.write_gate_again.ensures.looks mid in
    looked_then d old (λ image left. g.met.D.Disk.only_now old image honest left) c.write_gate_again.new.disk c.recover_found.new.disk c.recover_found.result
    (looked_of d old c.write_gate_again.new.disk looks) (ap (λ (f : List ℕ → FileState). contents f) looks.same) (c.recover_found.ensures.reopens ended)

pub returns-clause-fault : goal.returns-clause-fault
returns-clause-fault g c =
    let files = g.D.Disk.files in
    fault_over (contents (files c.args.disk.now)) (contents (files c.write_gate_again.new.disk)) (contents (files c.recover_found.new.disk)) c.recover_found.result
    (λ ended. ap (λ (f : List ℕ → FileState). contents f) (c.write_gate_again.ensures.looks (c.recover_found.ensures.accounts.was_honest ended)).same) c.recover_found.ensures.fault
