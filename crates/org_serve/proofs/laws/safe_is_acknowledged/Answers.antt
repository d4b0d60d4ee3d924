use Rattle.org_serve.proofs.Reported.{safe_written}
use Rattle.org_serve.proofs.laws.safe_is_acknowledged.Goals as goal

pub returns-clause-written : goal.returns-clause-written
returns-clause-written c = safe_written
