use Rattle.org_outline.proofs.Changes.{append_heading_valid, append_heading_local}
use Rattle.org_outline.proofs.laws.appends_heading.Goals as goal

pub returns-clause-valid : goal.returns-clause-valid
returns-clause-valid c = append_heading_valid

pub returns-clause-local : goal.returns-clause-local
returns-clause-local c = append_heading_local
