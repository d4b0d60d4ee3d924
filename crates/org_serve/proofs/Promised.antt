-- README's six sentences, of what is proved of a run.
use Rattle.std.proofs.Common.{◌≡◌, inl, inr, ⊎_elim, ℕ, Result, Ok, Err, ap, arith}
use Rattle.org_disk.specs.declared.disk.Disk.{Ghosts}
use Rattle.org_journal.specs.Recovered.{Image}
use Rattle.org_fileset.specs.declared.open.OpenFault.{OpenFault}
use Rattle.org_fileset.proofs.Writes.{alone_fewer}
use Rattle.org_commands.specs.declared.command.Command.{Command}
use Rattle.org_fault.specs.declared.refusal.Refusal.{Refusal}
use Rattle.org_commands.specs.declared.command.Reply.{Reply}
use Rattle.org_commands.specs.declared.command.RunFault.{RunFault}
use Rattle.org_commands.specs.declared.command.RunFault.TheVariants.{Device, Refused}
use Rattle.org_store.specs.Left.{IsLeftAlone}
use Rattle.org_commands.specs.Outcome.{outcome}
use Rattle.org_commands.specs.Session.{Session}
use Rattle.org_store.specs.Calls.Call.{Ran}
use Rattle.org_store.specs.History.{Trace}
use Rattle.org_store.proofs.History.{none_added}
use Rattle.org_serve.specs.declared.end.ServeEnd.{ServeEnd}
use Rattle.org_serve.specs.declared.whole.Setup.{Setup}
use Rattle.org_serve.specs.Pipes.{Exchange}
use Rattle.org_serve.specs.Promises.{ChangesNothing, IsAfterPrefix, Promises}
use Rattle.org_serve.specs.Serving.{traces_while_honest}
use Rattle.org_serve.specs.Whole.{HoldsServed, RunsSynced, ServesOver}
use Rattle.org_serve.proofs.Synced.{leaves_as}

-- a refusal is no fault of the disk
unfailed : (why : Refusal) → Refused why ≡ Device → ⊥
unfailed why same = cc

module _ {D : Type 0} {g : Ghosts D} {setup : Setup} {disk now : D} {end : ServeEnd} {io : Exchange} (run : ServesOver g setup disk now end io) where
  prefix_of : (here later : Trace D) (image : Image) → HoldsServed run here later image → IsAfterPrefix run later here.store.session.acknowledged image
  prefix_of here later image holds = (holds.count, holds.least, holds.accepted, holds.holds)

  prefix_from : (state : Trace D) (least : ℕ) (image : Image) → IsAfterPrefix run state least image → IsAfterPrefix run state 0 image
  prefix_from state least image after = (after.0, omega arith, after.2, after.3)

  refused : (old new : Trace D) (command : Command) (why : Refusal) → (traces_while_honest g).makes old (Ran command (Err (Refused why))) new → g.honest new.store.disk → ChangesNothing run old new command why
  refused old new command why called honestly =
      let made = called.did honestly in
      let same : new.store.session ≡ old.store.session = made.0.step.2 in
      let answer : Result Reply RunFault = Err (Refused why) in
      record {
        refuses = made.0.step.1;
        session = same;
        list = none_added (outcome old.store.session command) old.store.session.accepted new.store.session.accepted old.texts new.texts made.1 (ap (λ (s : Session). s.accepted) same);
        files = alone_fewer g (λ name. Unit {0}) (IsLeftAlone old.store.session old.store.dirty (outcome old.store.session command) answer new.store.session.accepted) old.store.disk new.store.disk made.0.disk.alone
            (λ name any wrote. absurd (unfailed why wrote));
      }

pub promises : {D : Type 0} (g : Ghosts D) (setup : Setup) (max_reads : ℕ) (disk now : D) (end : Result ServeEnd OpenFault) (io : Exchange) → RunsSynced g setup max_reads disk now end io → Promises g setup disk now end io
promises g setup max_reads disk now (Ok end) io runs =
    let serves = runs.served.serves in
    let run = serves.served in (
      run,
      record {
        one_prefix = λ once. record {
          any_moment = λ state way honestly.
              leaves_as ((runs.served.lasts_found once).any_moment state way honestly)
              (λ image left. ⊎_elim (λ found. inl found) (λ holds. inr (prefix_from run state run.first.store.session.acknowledged image (prefix_of run run.first state image holds))) left);
          whole = (runs.served.lasts_found once).whole_moment;
        };
        safe_stays = λ once here later way honestly sound.
            leaves_as ((runs.served.lasts_found once).since here later way honestly sound) (λ image holds. prefix_of run here later image holds);
        refused_changes_nothing = λ old way new command why called honestly. refused run old new command why called honestly;
        as_the_model = record { reopened = run.reopened; begins = run.begins; so_far = run.so_far; lists = serves.lists; serves = run.serves };
        faults_are_counted = record { reported = runs.accounts; breaks = serves.breaks };
        others_untouched = record { states = serves.alone; ended = λ honestly. (runs.leaves_disk honestly).leaves_disk.alone };
      },
    )
promises g setup max_reads disk now (Err fault) io runs = record {
  one_prefix = λ once honestly. (runs.leaves_disk honestly).unopened_as_found once;
  nothing_served = runs.unserved;
  as_the_model = runs.refused;
  faults_are_counted = runs.accounts;
  others_untouched = λ honestly. (runs.leaves_disk honestly).leaves_disk.alone;
}
