use Rattle.org_fileset.proofs.Kept.{keeps_write, keeps_cut, keeps_sync}
use Rattle.org_fileset.proofs.laws.calls_keep_texts.Goals as goal

pub returns : goal.returns
returns c = record { write = keeps_write; cut = keeps_cut; sync = keeps_sync }
