use Rattle.org_fileset.specs.Names.{AreSorted}
use Rattle.org_serve.specs.Syncing.{stored}
use Rattle.org_serve.proofs.Syncs.{others_of, syncs_of}
use Rattle.org_serve.proofs.Joins.{passed_never}
use Rattle.org_serve.proofs.syncing.sync_files.Goals as goal

pub returns-clause-syncs : goal.returns-clause-syncs
returns-clause-syncs g c ended =
    let d = g.D.Disk in
    let synced = c.in_ok-sync_each.ensures.syncs ended in
    let sorted : AreSorted (stored c.args.given.now) c.deref.result.now = rw c.deref.ensures.value (rw c.in-Some.is at c.in_ok-names.ensures.few).1 in
    record {
      done = syncs_of c.args.given.now c.deref.result.now (d.files c.args.disk.now) (d.files c.sync_each.new.disk) sorted synced.done;
      images = synced.images;
      others = others_of c.args.given.now c.deref.result.now (d.files c.args.disk.now) (d.files c.sync_each.new.disk) sorted synced.others;
      any_moment = synced.any_moment;
    }

pub returns-in_err-sync_each-clause-syncs : goal.returns-in_err-sync_each-clause-syncs
returns-in_err-sync_each-clause-syncs g c ended =
    let d = g.D.Disk in
    let synced = c.in_err-sync_each.ensures.syncs ended in
    let sorted : AreSorted (stored c.args.given.now) c.deref.result.now = rw c.deref.ensures.value (rw c.in-Some.is at c.in_ok-names.ensures.few).1 in
    record {
      done = passed_never _ _ c.from_residual-in_err-sync_each.result c.from_residual-in_err-sync_each.ensures.1;
      images = synced.images;
      others = others_of c.args.given.now c.deref.result.now (d.files c.args.disk.now) (d.files c.sync_each.new.disk) sorted synced.others;
      any_moment = synced.any_moment;
    }
