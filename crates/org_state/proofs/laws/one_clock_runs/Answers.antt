use Rattle.org_state.proofs.Opens.{one_opened, one_closed, one_stays_one}
use Rattle.org_state.proofs.laws.one_clock_runs.Goals as goal

pub returns-clause-opened : goal.returns-clause-opened
returns-clause-opened c = one_opened

pub returns-clause-closed : goal.returns-clause-closed
returns-clause-closed c = one_closed

pub returns-clause-switched : goal.returns-clause-switched
returns-clause-switched c = one_stays_one
