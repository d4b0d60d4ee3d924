use Rattle.org_folder.proofs.Entries.{unlisted_absent}
use Rattle.org_folder.proofs.laws.unlisted_is_absent.Goals as goal

pub returns : goal.returns
returns c = unlisted_absent
