use Rattle.org_texts.proofs.Standing.{CanEdit-second}
use Rattle.org_texts.proofs.laws.plans_of_two_files.Goals as goal

pub returns : goal.returns
returns c = CanEdit-second
