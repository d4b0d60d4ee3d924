use Rattle.org_state.proofs.ClocksKept.{opened_valid, closed_valid, switched_valid, opened_reads_back, closed_reads_back, switched_reads_back}
use Rattle.org_state.proofs.laws.clocks_are_valid.Goals as goal

pub returns-clause-opened : goal.returns-clause-opened
returns-clause-opened c = opened_valid

pub returns-clause-closed : goal.returns-clause-closed
returns-clause-closed c = closed_valid

pub returns-clause-switched : goal.returns-clause-switched
returns-clause-switched c = switched_valid

pub returns-clause-opened_text : goal.returns-clause-opened_text
returns-clause-opened_text c = opened_reads_back

pub returns-clause-closed_text : goal.returns-clause-closed_text
returns-clause-closed_text c = closed_reads_back

pub returns-clause-switched_text : goal.returns-clause-switched_text
returns-clause-switched_text c = switched_reads_back
