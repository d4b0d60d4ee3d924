use Rattle.org_outline.proofs.Changes.{take_valid, take_local}
use Rattle.org_outline.proofs.laws.takes_one_span.Goals as goal

pub returns-clause-valid : goal.returns-clause-valid
returns-clause-valid c = take_valid

pub returns-clause-local : goal.returns-clause-local
returns-clause-local c = take_local
