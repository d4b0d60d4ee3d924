use Rattle.org_meta.proofs.Replanned.{repeated_plans}
use Rattle.org_meta.proofs.laws.repeats_stay_planning.Goals as goal

pub returns : goal.returns
returns c = λ line text p now is some are. repeated_plans line p now text is some are
