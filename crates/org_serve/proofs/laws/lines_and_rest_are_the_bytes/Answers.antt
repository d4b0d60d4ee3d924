use Rattle.org_serve.proofs.Cuts.{joined-cut, free-cut}
use Rattle.org_serve.proofs.laws.lines_and_rest_are_the_bytes.Goals as goal

pub returns-clause-whole : goal.returns-clause-whole
returns-clause-whole c = joined-cut

pub returns-clause-lines : goal.returns-clause-lines
returns-clause-lines c = λ bytes. (free-cut bytes).0

pub returns-clause-rest : goal.returns-clause-rest
returns-clause-rest c = λ bytes. (free-cut bytes).1
