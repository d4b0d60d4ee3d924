use Rattle.org_disk.proofs.Accounting.{accounts_call, accounts_call_ok, accounts_then, looks_behind}
use Rattle.org_journal.proofs.Accounted.{accounts_answered, accounts_quiet, accounts_reported}
use Rattle.org_journal.proofs.finding.size_of.Goals as goal

pub returns-in_err-read_at-clause-looks : goal.returns-in_err-read_at-clause-looks
returns-in_err-read_at-clause-looks g c = looks_behind c.length.ensures.looks c.read_at.ensures.accounts.was_honest c.read_at.ensures.looks

pub returns-clause-looks : goal.returns-clause-looks
returns-clause-looks g c = looks_behind c.length.ensures.looks c.read_at.ensures.accounts.was_honest c.read_at.ensures.looks

pub returns-in_err-length-clause-accounts : goal.returns-in_err-length-clause-accounts
returns-in_err-length-clause-accounts g c = accounts_reported c.from_residual.ensures.1 (accounts_call _ c.in_err-length.ensures.accounts)

pub returns-then-length-lt-FRONT-clause-accounts : goal.returns-then-length-lt-FRONT-clause-accounts
returns-then-length-lt-FRONT-clause-accounts g c = accounts_answered (accounts_call_ok c.in_ok-length.ensures.accounts)

pub returns-in_err-read_at-clause-accounts : goal.returns-in_err-read_at-clause-accounts
returns-in_err-read_at-clause-accounts g c =
    accounts_then (accounts_call_ok c.in_ok-length.ensures.accounts) (accounts_reported c.from_residual-in_err-read_at.ensures.1 (accounts_call _ c.in_err-read_at.ensures.accounts))

pub returns-clause-accounts : goal.returns-clause-accounts
returns-clause-accounts g c =
    accounts_quiet c.size_in.ensures.no_call (accounts_then (accounts_call_ok c.in_ok-length.ensures.accounts) (accounts_call_ok c.in_ok-read_at.ensures.accounts))
