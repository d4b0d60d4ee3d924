use Rattle.org_state.proofs.Opens.{closed_loses}
use Rattle.org_state.proofs.laws.closed_clocks_are_closed.Goals as goal

pub returns : goal.returns
returns c = closed_loses
