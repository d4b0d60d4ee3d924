use Rattle.org_journal.specs.Recovered.{contents}
use Rattle.org_store.proofs.Keeping.{others_same}
use Rattle.org_store.proofs.Runs.{on_disk_after}
use Rattle.org_store.proofs.laws.settled_is_on_disk.Goals as goal

pub returns-clause-opened : goal.returns-clause-opened
returns-clause-opened g c = λ states names files. others_same names files

pub returns-clause-run : goal.returns-clause-run
returns-clause-run g c = λ old new command answer fine ran.
    let files = g.D.Disk.files in
    on_disk_after new.session.names new.session.settled (contents (files old.disk)) (contents (files new.disk)) (ran.disk.others fine)

pub returns-clause-settle : goal.returns-clause-settle
returns-clause-settle g c = λ old new answer fine ran.
    let files = g.D.Disk.files in
    on_disk_after new.session.names new.session.settled (contents (files old.disk)) (contents (files new.disk)) (ran.disk.others fine)
