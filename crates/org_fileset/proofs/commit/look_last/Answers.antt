use Rattle.org_fileset.proofs.Tried.{looks_tries, tries_failed, tries_then}
use Rattle.org_fileset.proofs.commit.look_last.Goals as goal

pub returns-in_err-try_files-clause-tries : goal.returns-in_err-try_files-clause-tries
returns-in_err-try_files-clause-tries g c ended =
    tries_failed g.D.Disk c.args.entries.now c.args.disk.now c.try_files.new.disk c.try_files.result c.from_residual.result
    (c.try_files.ensures.tries ended) c.from_residual.ensures.0

pub returns-clause-tries : goal.returns-clause-tries
returns-clause-tries g c ended =
    tries_then g.D.Disk c.args.entries.now c.args.disk.now c.try_files.new.disk c.look_at_first.new.disk tt c.look_at_first.result
    (c.in_ok-try_files.ensures.tries (c.look_at_first.ensures.accounts.was_honest ended))
    (looks_tries g.D.Disk c.args.entries.now c.try_files.new.disk c.look_at_first.new.disk c.look_at_first.result (c.look_at_first.ensures.looks ended))
