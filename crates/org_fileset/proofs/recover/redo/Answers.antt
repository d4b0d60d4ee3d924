use Rattle.std.proofs.Common.{◌≤◌, ap, length, sym, subst, List, ℕ}
use Rattle.org_disk.specs.Disk.{FileState}
use Rattle.org_disk.specs.Names.{journal_name}
use Rattle.org_journal.specs.Finding.{EndsAt}
use Rattle.org_journal.specs.Recovered.{contents}
use Rattle.org_fileset.specs.Replay.{AreApplicableTo, IsOpenOver}
use Rattle.org_fileset.proofs.OpenGate.{on_ok_never}
use Rattle.org_fileset.proofs.Reopening.{looked_of, looked_then, refused_reopens}
use Rattle.org_fileset.proofs.recover.redo.Goals as goal

pub write_record_again-requires : goal.write_record_again-requires
write_record_again-requires g c honest =
    subst (λ (n : List ℕ). c.args.end ≤ length (g.D.Disk.files c.args.disk.now n).content) (sym c.requires.journal) (c.requires.end honest).within

pub redo_marked-requires-clause-applicable : goal.redo_marked-requires-clause-applicable
redo_marked-requires-clause-applicable g c ended =
    subst (λ (f : List ℕ → FileState). AreApplicableTo c.args.entries.now f) (sym (c.write_record_again.ensures.looks ended).same) (c.requires.applicable (c.write_record_again.ensures.accounts.was_honest ended))

pub redo_marked-requires-clause-opened : goal.redo_marked-requires-clause-opened
redo_marked-requires-clause-opened g c ended =
    subst (λ (f : List ℕ → FileState). IsOpenOver c.args.entries.now f) (sym (c.write_record_again.ensures.looks ended).same) (c.requires.opened (c.write_record_again.ensures.accounts.was_honest ended))

pub redo_marked-requires-clause-end : goal.redo_marked-requires-clause-end
redo_marked-requires-clause-end g c ended =
    subst (λ (f : List ℕ → FileState). EndsAt (contents f journal_name) c.args.end) (sym (c.write_record_again.ensures.looks ended).same) (c.requires.end (c.write_record_again.ensures.accounts.was_honest ended))

pub returns-in_err-write_record_again-clause-reopens : goal.returns-in_err-write_record_again-clause-reopens
returns-in_err-write_record_again-clause-reopens g c ended =
    let d = g.D.Disk in
    let old = c.args.disk.now in
    let honest = c.write_record_again.ensures.accounts.was_honest ended in
    refused_reopens d old (λ image left. g.met.D.Disk.only_now old image honest left) c.write_record_again.new.disk c.from_residual.result
    (looked_of d old c.write_record_again.new.disk (c.write_record_again.ensures.looks ended)) (on_ok_never _ c.from_residual.result c.from_residual.ensures.0)

pub returns-clause-reopens : goal.returns-clause-reopens
returns-clause-reopens g c ended =
    let d = g.D.Disk in
    let old = c.args.disk.now in
    let mid = c.redo_marked.ensures.accounts.was_honest ended in
    let honest = c.write_record_again.ensures.accounts.was_honest mid in
    let looks = c.write_record_again.ensures.looks mid in
    looked_then d old (λ image left. g.met.D.Disk.only_now old image honest left) c.write_record_again.new.disk c.redo_marked.new.disk c.redo_marked.result
    (looked_of d old c.write_record_again.new.disk looks) (ap (λ (f : List ℕ → FileState). contents f) looks.same) (c.redo_marked.ensures.reopens ended)
