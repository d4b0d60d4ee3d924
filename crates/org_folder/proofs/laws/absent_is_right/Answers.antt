use Rattle.org_folder.proofs.Absent.{absent_right}
use Rattle.org_folder.proofs.laws.absent_is_right.Goals as goal

pub returns : goal.returns
returns c = absent_right
