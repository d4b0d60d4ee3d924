use Rattle.org_meta.proofs.Reading.{put_is_read}
use Rattle.org_meta.proofs.laws.put_is_read.Goals as goal

pub returns : goal.returns
returns c = put_is_read
