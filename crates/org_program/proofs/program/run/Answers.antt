use Rattle.std.proofs.Common.{◌≡◌, ◌∷◌, ◌∙◌, ap, refl, sym, subst, ℕ, List, string_bytes}
use Rattle.org_folder.specs.Calls.Event.{Filled}
use Rattle.org_folder.specs.Calls.{failed_calls}
use Rattle.org_folder.specs.declared.disk.CallsDisk.{CallsDisk}
use Rattle.org_folder.specs.declared.system.System.{Ghosts}
use Rattle.org_folder.proofs.Looked.{fine_on, held_on}
use Rattle.org_store.specs.Group.{IsGroup}
use Rattle.org_program.proofs.Words.{group_is_given}
use Rattle.org_program.specs.Runs.{IsAlone, IsSetUp, LocksFirst}
use Rattle.org_program.proofs.program.run.Goals as goal

pub serve_synced-disk-requires-clause-group : goal.serve_synced-disk-requires-clause-group
serve_synced-disk-requires-clause-group g c =
    let said = c.in-Ok.ensures.words in
    subst IsGroup (sym (c.in-Ok.ensures.sets_up.0.group ∙ said.group)) (group_is_given _ _ said.taken.1)

pub over-disk-requires-clause-held : goal.over-disk-requires-clause-held
over-disk-requires-clause-held g c = held_on _ _ c.in-Ok.ensures.locks refl

-- a folder that was locked and looked at has no failed call more
none_failed : {C F : Type 0} (g : Ghosts C F) (found : C) (disk : CallsDisk C F g) (path : List ℕ) (calls : C) → disk.folder.system ≡ calls
    → LocksFirst path (Filled path ∷ g.history found) (g.history calls) → failed_calls (g.history disk.folder.system) ≡ failed_calls (g.history found)
none_failed {C = C} g found disk path calls same locks = ap (λ (c : C). failed_calls (g.history c)) same ∙ fine_on _ _ locks

pub returns-then-forgets-clause-forgets : goal.returns-then-forgets-clause-forgets
returns-then-forgets-clause-forgets g c is = (
  record {
    disk = c.over-disk.result;
    locks = subst
        (λ calls. LocksFirst (string_bytes c.in-Ok.arguments.folder) (Filled (string_bytes c.in-Ok.arguments.folder) ∷ g.S.System.history c.args.system) (g.S.System.history calls))
        (sym c.over-disk.ensures.system) c.in-Ok.ensures.locks;
    alone = subst
        (λ calls. IsAlone (string_bytes c.in-Ok.arguments.folder) (Filled (string_bytes c.in-Ok.arguments.folder) ∷ g.S.System.history c.args.system) (g.S.System.history calls))
        (sym c.over-disk.ensures.system) c.in-Ok.ensures.alone;
    failures = none_failed g.S.System c.args.system c.over-disk.result (string_bytes c.in-Ok.arguments.folder) _ c.over-disk.ensures.system c.in-Ok.ensures.locks;
    forgets = c.give_up-end.ensures;
  },
  refl,
  refl,
)

pub returns-else-forgets-clause-runs : goal.returns-else-forgets-clause-runs
returns-else-forgets-clause-runs g c other =
    record {
      end = c.serve_synced-disk.result.end;
      is_reported = c.reported.ensures;
      serves = record {
        disk = c.over-disk.result;
        locks = subst
            (λ calls. LocksFirst (string_bytes c.in-Ok.arguments.folder) (Filled (string_bytes c.in-Ok.arguments.folder) ∷ g.S.System.history c.args.system) (g.S.System.history calls))
            (sym c.over-disk.ensures.system) c.in-Ok.ensures.locks;
        alone = subst
            (λ calls. IsAlone (string_bytes c.in-Ok.arguments.folder) (Filled (string_bytes c.in-Ok.arguments.folder) ∷ g.S.System.history c.args.system) (g.S.System.history calls))
            (sym c.over-disk.ensures.system) c.in-Ok.ensures.alone;
        failures = none_failed g.S.System c.args.system c.over-disk.result (string_bytes c.in-Ok.arguments.folder) _ c.over-disk.ensures.system c.in-Ok.ensures.locks;
        adopting = c.over-disk.ensures.adopts ∙ c.adopts-adopts.ensures;
        setup = c.in-Ok.setup;
        is_set_up = subst
            (λ calls. IsSetUp c.in-Ok.arguments c.in-Ok.setup (Filled (string_bytes c.in-Ok.arguments.folder) ∷ g.S.System.history c.args.system) (g.S.System.history calls))
            (sym c.over-disk.ensures.system) c.in-Ok.ensures.sets_up.0;
        promises = c.serve_synced-disk.ensures.promises;
        runs = c.serve_synced-disk.ensures.runs;
      };
    }
