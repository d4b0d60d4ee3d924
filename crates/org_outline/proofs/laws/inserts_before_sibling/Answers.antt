use Rattle.org_outline.proofs.Changes.{insert_before_valid, insert_before_local}
use Rattle.org_outline.proofs.laws.inserts_before_sibling.Goals as goal

pub returns-clause-valid : goal.returns-clause-valid
returns-clause-valid c = insert_before_valid

pub returns-clause-local : goal.returns-clause-local
returns-clause-local c = insert_before_local
