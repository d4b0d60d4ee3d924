use Rattle.org_store.proofs.Sortings.{one_sorting}
use Rattle.org_store.proofs.laws.one_sorting.Goals as goal

pub returns : goal.returns
returns c = one_sorting
