use Rattle.org_store.proofs.Reopening.{opened_small, accepted_small}
use Rattle.org_store.proofs.laws.texts_stay_small.Goals as goal

pub returns : goal.returns
returns c = record { opened = opened_small; accepted = accepted_small }
