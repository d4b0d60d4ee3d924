use Rattle.org_splice.proofs.Exchanged.{taken_back}
use Rattle.org_splice.proofs.laws.edits_are_taken_back.Goals as goal

pub returns : goal.returns
returns c = taken_back
