use Rattle.org_meta.proofs.Computed.{entries_computed}
use Rattle.org_meta.proofs.laws.repeats_compute.Goals as goal

pub returns : goal.returns
returns c = λ entries now r are. entries_computed now entries r are
