use Rattle.std.proofs.Common.{◌≡◌, ℕ, List, Option, Ok, Err, refl, rules, subst}
use Rattle.std.specs.Prelude.{IsSomeAnd}
use Rattle.org_disk.specs.CountsFailures.{CountsFailures, LeavesOver}
use Rattle.org_disk.specs.Names.{journal_name}
use Rattle.org_journal.specs.Recovered.{Image, SameFiles, contents}
use Rattle.org_fileset.specs.declared.open.OpenFault.{OpenFault}
use Rattle.org_fileset.specs.Left.{IsLeft}
use Rattle.org_fileset.specs.Recovery.{IsReopened, RecoversAsBefore}
use Rattle.org_fileset.specs.Replay.{IsAtRest}
use Rattle.org_fileset.specs.Writes.{LeavesAlone, IsUnconcerned}
use Rattle.org_fileset.proofs.Writes.{alone_fewer}
use Rattle.org_serve.specs.Syncing.{AnswersSync, IsNotStored, Syncs, stored}
use Rattle.org_serve.specs.Whole.{IsForeign}
use Rattle.org_serve.specs.Writes.{pipes}
use Rattle.org_serve.proofs.Breaking.{breaks_by_count, served_accounts}
use Rattle.org_serve.proofs.Counting.{ended_unserved}
use Rattle.org_serve.proofs.Foreign.{given_back_alone}
use Rattle.org_serve.proofs.Lefts.{each_left, none_changed_at_end}
use Rattle.org_serve.proofs.Opened.{of_disk, is_sound, serves_lasting, left_recovers, each_recovers}
use Rattle.org_serve.proofs.Promised.{promises}
use Rattle.org_serve.proofs.Synced.{runs_synced, unsynced_leaves_disk}
use Rattle.org_serve.proofs.whole.serve_synced.Goals as goal

pub returns-in-Ok-clause-runs : goal.returns-in-Ok-clause-runs
returns-in-Ok-clause-runs g c =
    let d = g.D.Disk in
    let laws = g.met.D.Disk in
    let mid = c.sync_files.new.disk in
    let store = c.in-Ok.store in
    let begun = c.set_group.new.self in
    let setup = c.args.setup in
    let opens = c.in-Ok.ensures.opened.session in
    let here = of_disk d setup mid store begun c.set_group.ensures opens in
    let reopens = c.in-Ok.ensures.opens.reopens in
    let counts = here (λ k. CountsFailures d mid k ⊥) c.in-Ok.ensures.opens.accounts in
    let sound = is_sound d setup mid store begun c.set_group.ensures opens in
    let served =
    serves_lasting d laws.only_now laws.counts_now setup mid store begun c.set_group.ensures opens
    c.in-Ok.ensures.opened.set.few c.in-Ok.ensures.opened.set.sorted c.in-Ok.ensures.opened.set.sizes (here (λ k. d.honest k → d.honest mid) c.in-Ok.ensures.opens.accounts.was_honest)
    (here (λ k. d.honest k → IsReopened (d.files mid) (d.files k)) (λ honestly. (reopens honestly).done))
    c.in-Ok.ensures.opened.dirty_files
    (here (λ k. d.honest k → LeavesAlone d (IsUnconcerned (contents (d.files mid) journal_name)) mid k) (λ honestly. (reopens honestly).alone))
    c.serve-end.new.store c.into_disk.result c.into_disk.ensures c.serve-end.ensures.calls
    (λ honest. (c.serve-end.ensures.did (rw (← c.into_disk.ensures) honest)).0)
    (λ fit each. here (λ k. d.honest k → LeavesOver d mid k (RecoversAsBefore (d.files mid))) (λ honestly. (reopens honestly).any_moment fit each))
    (λ fit each kept. here (λ k. d.honest k → LeavesOver d mid k IsLeft) (λ honestly. (reopens honestly).left fit each kept))
    (breaks_by_count begun c.serve-end.new.store counts c.serve-end.ensures.accounts
    sound c.into_disk.ensures) in
    runs_synced d laws.content_is_image laws.counts_now setup c.args.disk mid c.into_disk.result (Ok c.serve-end.result)
    (subst (λ (names : List (List ℕ)). Syncs {A = Unit {0}} {E = OpenFault} d (stored names) c.args.disk mid (Ok tt)) c.deref.ensures.value c.in_default.ensures.syncs)
    (subst (λ (names : List (List ℕ)). AnswersSync {A = Unit {0}} names c.args.disk mid (Ok tt)) c.deref.ensures.value c.in_default.ensures.answers)
    c.in_default.ensures.accounts (record {
      served = served;
      leaves_disk = λ honest.
          let now : d.honest c.serve-end.new.store.disk = rw (← c.into_disk.ensures) honest in
          let then = here (λ k. d.honest k → d.honest store.disk) (λ h. h) (c.serve-end.ensures.accounts.was_honest now) in
          let reopened = (reopens then).done in
          record {
            unopened = λ fit each. tt;
            unopened_bad = λ none. absurd (subst (λ (o : Option Image). IsSomeAnd o (SameFiles (contents (d.files store.disk)))) none reopened.recovered_then);
            unopened_closed = λ closed. tt;
            recoverable = λ fit each.
                let rest = here (λ k. IsAtRest (d.files k)) (reopened.rest fit each) in
                (rw c.into_disk.ensures ((c.serve-end.ensures.did now).1.recoverable rest), left_recovers laws.only_now laws.counts_now served.served honest (served.lasts fit each));
            left = λ fit each kept.
                let leaves = none_changed_at_end served.served (served.left fit each kept) honest in
                (leaves, each_left d mid c.into_disk.result (λ image left. laws.counts_now c.into_disk.result (d.instant mid) image honest leaves.passes.later left) leaves);
            alone = given_back_alone served.served honest;
          };
      refused = tt;
      unserved = tt;
      causes = c.serve-end.ensures.causes;
      accounts = served_accounts c.serve-end.result begun c.serve-end.new.store counts c.serve-end.ensures.accounts sound c.serve-end.ensures.broken c.into_disk.ensures;
    })

pub returns-in-Err-open-clause-runs : goal.returns-in-Err-open-clause-runs
returns-in-Err-open-clause-runs g c =
    let d = g.D.Disk in
    let laws = g.met.D.Disk in
    let mid = c.sync_files.new.disk in
    let now = c.in-Err-open.field-0.disk in
    runs_synced d laws.content_is_image laws.counts_now c.args.setup c.args.disk mid now (Err c.in-Err-open.field-0.fault)
    (subst (λ (names : List (List ℕ)). Syncs {A = Unit {0}} {E = OpenFault} d (stored names) c.args.disk mid (Ok tt)) c.deref.ensures.value c.in_default.ensures.syncs)
    (subst (λ (names : List (List ℕ)). AnswersSync {A = Unit {0}} names c.args.disk mid (Ok tt)) c.deref.ensures.value c.in_default.ensures.answers)
    c.in_default.ensures.accounts (record {
      served = tt;
      leaves_disk = λ honest.
          let reopens = c.in-Err-open.ensures.opens.reopens honest in
          record {
            unopened = reopens.any_moment;
            unopened_bad = λ none. (refl, reopens.bad none);
            unopened_closed = reopens.idle;
            recoverable = λ fit each.
                let leaves = reopens.any_moment fit each in (
                  reopens.recoverable fit each,
                  each_recovers d mid now (RecoversAsBefore (d.files mid))
                      (λ image left. laws.counts_now now (d.instant mid) image honest leaves.passes.later left) leaves (λ image left. (left.texts, left.recovers_now)),
                );
            left = λ fit each kept.
                let leaves = reopens.left fit each kept in
                (leaves, each_left d mid now (λ image left. laws.counts_now now (d.instant mid) image honest leaves.passes.later left) leaves);
            alone = alone_fewer d (IsForeign c.args.setup.names.items (contents (d.files mid) journal_name)) (IsUnconcerned (contents (d.files mid) journal_name)) mid now reopens.alone
                (λ name foreign. foreign.unconcerned);
          };
      refused = c.in-Err-open.ensures.opens.refused;
      unserved = refl;
      causes = ended_unserved (pipes g.R.Source g.W.Sink c.args.reader.now c.args.writer.now);
      accounts = c.in-Err-open.ensures.opens.accounts;
    })

pub returns-in-Err-clause-runs : goal.returns-in-Err-clause-runs
returns-in-Err-clause-runs g c = record {
  served = tt;
  leaves_disk = λ honest. let d = g.D.Disk in
      let now = c.sync_files.new.disk in
      unsynced_leaves_disk d c.args.setup c.args.disk now
      (λ name. g.met.D.Disk.content_is_image now name honest) (c.sync_files.ensures.syncs honest).images
      (subst (λ (names : List (List ℕ)). (name : List ℕ) → IsNotStored names name → d.files now name ≡ d.files c.args.disk name) c.deref.ensures.value (c.sync_files.ensures.syncs honest).others) (c.sync_files.ensures.syncs honest).any_moment;
  refused = record { reason = search rules; unused = λ is. c.sync_files.ensures.answers.unused cc };
  unserved = refl;
  causes = ended_unserved (pipes g.R.Source g.W.Sink c.args.reader.now c.args.writer.now);
  accounts = search rules;
}

pub returns-in-Ok-clause-promises : goal.returns-in-Ok-clause-promises
returns-in-Ok-clause-promises g c = promises _ _ _ _ _ _ _ (returns-in-Ok-clause-runs g c)

pub returns-in-Err-clause-promises : goal.returns-in-Err-clause-promises
returns-in-Err-clause-promises g c = promises _ _ _ _ _ _ _ (returns-in-Err-clause-runs g c)

pub returns-in-Err-open-clause-promises : goal.returns-in-Err-open-clause-promises
returns-in-Err-open-clause-promises g c = promises _ _ _ _ _ _ _ (returns-in-Err-open-clause-runs g c)
