use Rattle.std.proofs.Common.{Ok}
use Rattle.org_disk.proofs.Accounting.{accounts_then, accounts_ok}
use Rattle.org_journal.proofs.Accounted.{accounts_failed}
use Rattle.org_fileset.proofs.Tried.{commits_err, commits_tried}
use Rattle.org_fileset.proofs.commit.commit_entries.Goals as goal

pub returns-in_err-commit_and_confirm-clause-commits : goal.returns-in_err-commit_and_confirm-clause-commits
returns-in_err-commit_and_confirm-clause-commits g c ended =
    let honest = c.commit_and_confirm.ensures.accounts.was_honest ended in
    let disk = c.args.disk.now in
    commits_err g.D.Disk c.args.entries.now disk (λ image left. g.met.D.Disk.only_now disk image honest left) c.commit_and_confirm.new.disk c.commit_and_confirm.result c.from_residual.result
    (c.commit_and_confirm.ensures.commits ended) c.from_residual.ensures.0

pub returns-in_err-commit_and_confirm-clause-accounts : goal.returns-in_err-commit_and_confirm-clause-accounts
returns-in_err-commit_and_confirm-clause-accounts g c = accounts_failed c.from_residual.ensures.0 c.in_err-commit_and_confirm.ensures.accounts

pub returns-clause-commits : goal.returns-clause-commits
returns-clause-commits g c ended =
    let done = c.try_files.ensures.accounts.was_honest ended in
    let honest = c.commit_and_confirm.ensures.accounts.was_honest done in
    let disk = c.args.disk.now in
    commits_tried g.D.Disk c.args.entries.now disk (λ image left. g.met.D.Disk.only_now disk image honest left) c.commit_and_confirm.new.disk c.try_files.new.disk tt c.try_files.result
    (c.in_ok-commit_and_confirm.ensures.commits done)
    (c.try_files.ensures.tries ended)
    (λ n. g.met.D.Disk.content_is_image c.try_files.new.disk n ended)

pub returns-clause-accounts : goal.returns-clause-accounts
returns-clause-accounts g c = accounts_then (accounts_ok c.in_ok-commit_and_confirm.ensures.accounts) c.try_files.ensures.accounts
