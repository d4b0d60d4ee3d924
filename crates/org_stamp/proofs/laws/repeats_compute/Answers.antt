use Rattle.org_stamp.proofs.Computed.{repeats_computed}
use Rattle.org_stamp.proofs.laws.repeats_compute.Goals as goal

pub returns : goal.returns
returns c = repeats_computed
