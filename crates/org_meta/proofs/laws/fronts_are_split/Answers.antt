use Rattle.org_meta.proofs.Resplit.{split_planning, split_front}
use Rattle.org_meta.proofs.laws.fronts_are_split.Goals as goal

pub returns-clause-planning : goal.returns-clause-planning
returns-clause-planning c = split_planning

pub returns-clause-drawer : goal.returns-clause-drawer
returns-clause-drawer c = split_front
