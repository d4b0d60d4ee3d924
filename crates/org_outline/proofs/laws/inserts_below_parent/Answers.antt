use Rattle.org_outline.proofs.Placing.{insert_local}
use Rattle.org_outline.proofs.laws.inserts_below_parent.Goals as goal

pub returns : goal.returns
returns c = insert_local
