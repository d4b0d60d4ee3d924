use Rattle.org_state.proofs.Computed.{todo_computed}
use Rattle.org_state.proofs.laws.outcome_computes.Goals as goal

pub returns : goal.returns
returns c = todo_computed
