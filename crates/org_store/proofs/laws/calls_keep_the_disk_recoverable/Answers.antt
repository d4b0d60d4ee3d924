use Rattle.org_store.proofs.Calls.{broken_calls, calls_recoverable, calls_rest}
use Rattle.org_store.proofs.laws.calls_keep_the_disk_recoverable.Goals as goal

pub returns-clause-broken : goal.returns-clause-broken
returns-clause-broken g c = λ first last calls fell run.
    let keeps = broken_calls g.D.Disk first last calls fell run in (keeps.store, keeps.texts)

pub returns-clause-recoverable : goal.returns-clause-recoverable
returns-clause-recoverable g c = λ first last calls rest run. calls_recoverable g.D.Disk first last calls rest run

pub returns-clause-rest : goal.returns-clause-rest
returns-clause-rest g c = λ first last calls sound rest run. calls_rest g.D.Disk first last calls sound rest run
