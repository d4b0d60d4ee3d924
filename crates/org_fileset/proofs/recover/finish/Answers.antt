use Rattle.org_fileset.proofs.Reopening.{open_applicable, open_as, open_over}
use Rattle.org_fileset.proofs.recover.finish.Goals as goal

pub redo-requires-clause-opened : goal.redo-requires-clause-opened
redo-requires-clause-opened g c honest =
    (open_over (g.D.Disk.files c.args.disk.now) c.args.found.now c.as_slice.result.now _ (c.requires.stable honest) (open_as c.in-Open.is c.as_slice.ensures) (c.requires.found honest)).0

pub redo-requires-clause-end : goal.redo-requires-clause-end
redo-requires-clause-end g c honest =
    (open_over (g.D.Disk.files c.args.disk.now) c.args.found.now c.as_slice.result.now _ (c.requires.stable honest) (open_as c.in-Open.is c.as_slice.ensures) (c.requires.found honest)).1

pub redo-requires-clause-applicable : goal.redo-requires-clause-applicable
redo-requires-clause-applicable g c honest =
    open_applicable (g.D.Disk.files c.args.disk.now) c.args.found.now c.as_slice.result.now _ (open_as c.in-Open.is c.as_slice.ensures) c.requires.whole (c.requires.fit honest)
