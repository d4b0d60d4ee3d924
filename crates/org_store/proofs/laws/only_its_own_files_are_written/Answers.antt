use Rattle.std.proofs.Common.{ℕ, List, sym, subst}
use Rattle.org_commands.specs.InOrder.{AreNames}
use Rattle.org_store.proofs.Accepted.{written_named}
use Rattle.org_store.proofs.Own.{own_calls}
use Rattle.org_store.proofs.laws.only_its_own_files_are_written.Goals as goal

pub returns-clause-written : goal.returns-clause-written
returns-clause-written g c = λ s command. written_named s command

pub returns-clause-calls : goal.returns-clause-calls
returns-clause-calls g c = λ first last calls named run. let d = g.D.Disk in (own_calls d first last calls named run).alone

pub returns-clause-dirty_files : goal.returns-clause-dirty_files
returns-clause-dirty_files g c = λ first last calls named run.
    let d = g.D.Disk in
    let own = own_calls d first last calls named run in
    (own.names, subst (λ (ns : List (List ℕ)). AreNames ns last.store.dirty) (sym own.names) own.dirty_files)
