use Rattle.org_serve.proofs.Syncs.{outside_once_synced, still_once_synced}
use Rattle.org_serve.proofs.laws.folders_are_recoverable_once_synced.Goals as goal

pub returns-clause-outside : goal.returns-clause-outside
returns-clause-outside c = outside_once_synced

pub returns-clause-recoverable : goal.returns-clause-recoverable
returns-clause-recoverable c = still_once_synced
