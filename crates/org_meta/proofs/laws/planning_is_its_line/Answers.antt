use Rattle.org_meta.proofs.PlanningText.{planning_text}
use Rattle.org_meta.proofs.laws.planning_is_its_line.Goals as goal

pub returns : goal.returns
returns c = planning_text
