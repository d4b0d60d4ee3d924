use Rattle.org_outline.proofs.Changes.{own_lines_valid, own_lines_local}
use Rattle.org_outline.proofs.laws.rewrites_own_lines.Goals as goal

pub returns-clause-valid : goal.returns-clause-valid
returns-clause-valid c = own_lines_valid

pub returns-clause-local : goal.returns-clause-local
returns-clause-local c = own_lines_local
