use Rattle.org_meta.proofs.PlanningForms.{planning_complete, planning_sound}
use Rattle.org_meta.proofs.laws.planning_lines_are_exact.Goals as goal

pub returns-clause-read : goal.returns-clause-read
returns-clause-read c = planning_sound

pub returns-clause-only : goal.returns-clause-only
returns-clause-only c = planning_complete
