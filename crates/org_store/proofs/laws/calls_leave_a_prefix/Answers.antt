use Rattle.org_store.proofs.Calls.{call_listed, calls_leave, calls_list}
use Rattle.org_store.proofs.Listed.{calls_small, prefix_opens}
use Rattle.org_store.proofs.laws.calls_leave_a_prefix.Goals as goal

pub returns-clause-goes_on : goal.returns-clause-goes_on
returns-clause-goes_on g c = λ old new call made. call_listed g.D.Disk old new call made

pub returns-clause-lists : goal.returns-clause-lists
returns-clause-lists g c = λ first last calls lists run. calls_list g.D.Disk first last calls lists run

pub returns-clause-any_moment : goal.returns-clause-any_moment
returns-clause-any_moment g c = λ first last calls honest rest disk sound lists run.
    let d = g.D.Disk in
    calls_leave d first last calls lists run sound (λ image left. g.met.D.Disk.only_now first.store.disk image honest left) rest disk

pub returns-clause-opens : goal.returns-clause-opens
returns-clause-opens g c = λ given first last calls others image least few sorted lists small run.
    let d = g.D.Disk in
    prefix_opens given first.store.session others last.texts least image few sorted (calls_small d first last calls run lists small)
