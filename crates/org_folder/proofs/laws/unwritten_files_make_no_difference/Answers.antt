use Rattle.org_folder.proofs.Unwritten.{still_left, still_right}
use Rattle.org_folder.proofs.laws.unwritten_files_make_no_difference.Goals as goal

pub returns-clause-right : goal.returns-clause-right
returns-clause-right c = λ world calls these alone right. still_right these world calls alone right

pub returns-clause-images : goal.returns-clause-images
returns-clause-images c = λ world calls these since image alone left. still_left these world calls since image alone left
