use Rattle.org_store.proofs.Follows.{run_join}
use Rattle.org_store.proofs.laws.runs_join.Goals as goal

pub returns : goal.returns
returns c = run_join
