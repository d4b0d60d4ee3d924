use Rattle.std.proofs.Common.{Result, subst}
use Rattle.org_disk.specs.Names.{journal_name}
use Rattle.org_journal.specs.declared.fault.FindFault.{FindFault}
use Rattle.org_journal.specs.declared.finding.Found.{Found}
use Rattle.org_journal.specs.Finding.{Finds}
use Rattle.org_journal.specs.Recovered.{contents}
use Rattle.org_fileset.proofs.Reopening.{found_in, bad_in, found_by, looked_sync, looked_on}
use Rattle.org_fileset.proofs.recover.look.Goals as goal

pub returns-in_err-sync-clause-looked : goal.returns-in_err-sync-clause-looked
returns-in_err-sync-clause-looked g c ended =
    let d = g.D.Disk in
    looked_sync d c.args.journal.now c.args.disk.now c.sync.new.self c.sync.result c.requires
    (g.met.D.Disk.content_is_image c.args.disk.now journal_name (c.sync.ensures.accounts.was_honest ended)) (λ name. g.met.D.Disk.content_is_image c.sync.new.self name ended)
    (c.sync.ensures.effect ended) (c.sync.ensures.time ended)

pub returns-clause-looked : goal.returns-clause-looked
returns-clause-looked g c ended =
    let d = g.D.Disk in
    let mid = c.find.ensures.accounts.was_honest ended in
    looked_on d c.args.disk.now c.sync.new.self c.find.new.disk
    (looked_sync d c.args.journal.now c.args.disk.now c.sync.new.self c.sync.result c.requires
    (g.met.D.Disk.content_is_image c.args.disk.now journal_name (c.sync.ensures.accounts.was_honest mid)) (λ name. g.met.D.Disk.content_is_image c.sync.new.self name mid)
    (c.sync.ensures.effect mid) (c.sync.ensures.time mid))
    (c.find.ensures.looks ended)

pub returns-clause-found : goal.returns-clause-found
returns-clause-found g c =
    let files = g.D.Disk.files in
    let was = c.find.ensures.accounts.was_honest in
    found_by c.find.result (contents (files c.sync.new.self)) c.find.ensures.found
    (λ ended. found_in c.args.journal.now (files c.args.disk.now) (files c.sync.new.self) (files c.find.new.disk) c.requires (c.in_ok-sync.ensures.effect (was ended)) (c.find.ensures.looks ended).same)

pub returns-clause-bad : goal.returns-clause-bad
returns-clause-bad g c bad ended =
    let files = g.D.Disk.files in
    bad_in c.args.journal.now (files c.args.disk.now) (files c.sync.new.self) (files c.find.new.disk) c.requires (c.in_ok-sync.ensures.effect (c.find.ensures.accounts.was_honest ended))
    (c.find.ensures.looks ended).same (subst (λ (r : Result Found FindFault). Finds (contents (files c.sync.new.self)) r) bad (c.find.ensures.found ended))
