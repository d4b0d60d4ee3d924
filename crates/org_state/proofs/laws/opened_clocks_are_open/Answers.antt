use Rattle.org_state.proofs.Opens.{opened_adds}
use Rattle.org_state.proofs.laws.opened_clocks_are_open.Goals as goal

pub returns : goal.returns
returns c = λ now i d day minute lt. let a = opened_adds now i d day minute lt in (a.before, a.after, a.was, a.is)
