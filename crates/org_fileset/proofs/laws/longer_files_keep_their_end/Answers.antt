use Rattle.org_fileset.proofs.Made.{rest_stays}
use Rattle.org_fileset.proofs.laws.longer_files_keep_their_end.Goals as goal

pub returns : goal.returns
returns c = λ entry text formed fit stays. rest_stays entry formed text fit stays
