use Rattle.org_store.proofs.Asking.{settle_acknowledges}
use Rattle.org_store.proofs.laws.whole_groups_wait.Goals as goal

pub returns-clause-acknowledged : goal.returns-clause-acknowledged
returns-clause-acknowledged c = settle_acknowledges
