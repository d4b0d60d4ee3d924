use Rattle.std.proofs.Common.{ℕ, List, sym, subst}
use Rattle.org_commands.specs.InOrder.{AreNames}
use Rattle.org_serve.proofs.Foreign.{own_runs}
use Rattle.org_serve.proofs.Honest.{sound_traced}
use Rattle.org_serve.proofs.laws.only_own_files_are_written.Goals as goal

pub returns-clause-alone : goal.returns-clause-alone
returns-clause-alone g c = λ first last end io named honest run.
    let d = g.D.Disk in (own_runs d (sound_traced d run honest).0 named).alone

pub returns-clause-dirty_files : goal.returns-clause-dirty_files
returns-clause-dirty_files g c = λ first last end io named honest run.
    let d = g.D.Disk in
    let own = own_runs d (sound_traced d run honest).0 named in
    (own.names, subst (λ (ns : List (List ℕ)). AreNames ns last.store.dirty) (sym own.names) own.dirty_files)
