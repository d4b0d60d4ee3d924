use Rattle.org_meta.proofs.ClosedClocks.{opened_is_open, closed_is_not_open, closed_says}
use Rattle.org_meta.proofs.laws.clocks_open_and_close.Goals as goal

pub returns-clause-opened : goal.returns-clause-opened
returns-clause-opened c = opened_is_open

pub returns-clause-closed : goal.returns-clause-closed
returns-clause-closed c = closed_is_not_open

pub returns-clause-minutes : goal.returns-clause-minutes
returns-clause-minutes c = closed_says
