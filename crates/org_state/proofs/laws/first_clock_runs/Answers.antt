use Rattle.org_state.proofs.Opens.{first_runs}
use Rattle.org_state.proofs.laws.first_clock_runs.Goals as goal

pub returns : goal.returns
returns c = first_runs
