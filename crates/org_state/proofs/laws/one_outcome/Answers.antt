use Rattle.org_state.proofs.One.{one_outcome}
use Rattle.org_state.proofs.laws.one_outcome.Goals as goal

pub returns : goal.returns
returns c = one_outcome
