use Rattle.org_outline.proofs.PathOf.{path-leads, path-numbered}
use Rattle.org_outline.proofs.laws.every_heading_has_a_path.Goals as goal

pub returns-clause-leads : goal.returns-clause-leads
returns-clause-leads c = path-leads

pub returns-clause-numbered : goal.returns-clause-numbered
returns-clause-numbered c = path-numbered
