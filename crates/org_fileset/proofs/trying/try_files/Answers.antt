use Rattle.org_fileset.proofs.Tried.{tries_failed, tries_then}
use Rattle.org_fileset.proofs.trying.try_files.Goals as goal

pub returns-in_err-try_those-clause-tries : goal.returns-in_err-try_those-clause-tries
returns-in_err-try_those-clause-tries g c ended =
    tries_failed g.D.Disk c.args.entries.now c.args.disk.now c.try_those.new.disk c.try_those.result c.from_residual.result
    (c.try_those.ensures.tries ended) c.from_residual.ensures.0

pub returns-clause-tries : goal.returns-clause-tries
returns-clause-tries g c ended =
    tries_then g.D.Disk c.args.entries.now c.args.disk.now c.try_those.new.disk c.try_those-2.new.disk tt c.try_those-2.result
    (c.in_ok-try_those.ensures.tries (c.try_those-2.ensures.accounts.was_honest ended)) (c.try_those-2.ensures.tries ended)
