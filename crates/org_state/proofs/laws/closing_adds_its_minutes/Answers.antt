use Rattle.org_state.proofs.ClocksKept.{closing_adds}
use Rattle.org_state.proofs.laws.closing_adds_its_minutes.Goals as goal

pub returns : goal.returns
returns c = closing_adds
