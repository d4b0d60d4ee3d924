use Rattle.org_splice.proofs.Exchanged.{apart_commute}
use Rattle.org_splice.proofs.laws.edits_apart_commute.Goals as goal

pub returns : goal.returns
returns c = apart_commute
