use Rattle.org_capture.proofs.Fillings.{plain_stays}
use Rattle.org_capture.proofs.laws.plain_templates_stay.Goals as goal

pub returns : goal.returns
returns c = plain_stays
