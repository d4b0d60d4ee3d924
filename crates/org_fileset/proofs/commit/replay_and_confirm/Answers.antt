use Rattle.std.proofs.Common.{◌∷◌, drop, Ok, Result}
use Rattle.org_disk.specs.declared.disk.DiskFault.{DiskFault}
use Rattle.org_disk.proofs.Accounting.{accounts_then, accounts_ok}
use Rattle.org_journal.specs.Gate.{Puts}
use Rattle.org_journal.proofs.Accounted.{accounts_failed}
use Rattle.org_fileset.specs.Replay.{ReplaysOver}
use Rattle.org_fileset.proofs.Closing.{IsSynced, replays_answered, replays_closed, replays_err, replays_failed, synced_looked}
use Rattle.org_fileset.proofs.Confirming.{hold_as}
use Rattle.org_fileset.proofs.OpenGate.{long_open}
use Rattle.org_fileset.proofs.commit.replay_and_confirm.Given.{Over}
use Rattle.org_fileset.proofs.commit.replay_and_confirm.Goals as goal
use Rattle.org_fileset.proofs.commit.replay_and_confirm.Goals.{After-confirm_all-confirmed, After-close_gate}

pub returns-in_err-apply_and_sync : goal.returns-in_err-apply_and_sync
returns-in_err-apply_and_sync g c = record {
  replays = λ ended.
      let honest = c.apply_and_sync.ensures.accounts.was_honest ended in
      replays_failed g.D.Disk c.args.entries.now c.args.disk.now (c.requires.applicable honest).applicable (c.requires.opened honest) c.apply_and_sync.new.disk
      (c.apply_and_sync.ensures.replays ended) (c.apply_and_sync.ensures.alone ended) c.from_residual.result c.from_residual.ensures.0;
  accounts = accounts_failed c.from_residual.ensures.0 c.in_err-apply_and_sync.ensures.accounts;
}

pub confirm_all-confirmed-requires : goal.confirm_all-confirmed-requires
confirm_all-confirmed-requires g c ended =
    hold_as (g.C.Changes.pairs c.args.changes.now) _ _ (c.in_ok-apply_and_sync.ensures.contents ended) (c.requires.texts (c.apply_and_sync.ensures.accounts.was_honest ended))

-- the files were applied, synced, and read back
confirmed : (g : Over) (c : After-confirm_all-confirmed g) → g.D.Disk.honest c.confirm_all-confirmed.new.disk → IsSynced g.D.Disk c.args.entries.now c.args.disk.now c.confirm_all-confirmed.new.disk
confirmed g c ended =
    let back = c.confirm_all-confirmed.ensures.accounts.was_honest ended in
    let honest = c.apply_and_sync.ensures.accounts.was_honest back in
    synced_looked g.D.Disk c.args.entries.now (c.requires.applicable honest).applicable c.args.disk.now c.apply_and_sync.new.disk c.confirm_all-confirmed.new.disk
    (record {
      replays = c.apply_and_sync.ensures.replays back;
      made = c.in_ok-apply_and_sync.ensures.contents back;
      stable = c.in_ok-apply_and_sync.ensures.stable back;
      alone = c.apply_and_sync.ensures.alone back;
    })
    (c.confirm_all-confirmed.ensures.looks ended)

pub close_gate-requires-clause-nonempty : goal.close_gate-requires-clause-nonempty
close_gate-requires-clause-nonempty g c ended =
    let back = c.confirm_all-confirmed.ensures.accounts.was_honest ended in
    let honest = c.apply_and_sync.ensures.accounts.was_honest back in
    long_open c.args.entries.now (g.D.Disk.files c.args.disk.now) (g.D.Disk.files c.confirm_all-confirmed.new.disk) (c.requires.applicable honest).applicable (c.requires.opened honest)
    (confirmed g (goal.at.close_gate-requires-clause-nonempty g c).After-confirm_all-confirmed ended).alone.same c.args.journal.now c.requires.journal

-- the gate was closed, or that failed
closed : (g : Over) (c : After-close_gate g) → (g.D.Disk.honest c.confirm_all-confirmed.new.disk → IsSynced g.D.Disk c.args.entries.now c.args.disk.now c.confirm_all-confirmed.new.disk)
    → g.D.Disk.honest c.close_gate.new.disk → (result : Result (Unit {0}) DiskFault)
    → Puts c.args.journal.now (0 ∷ drop 1 (g.D.Disk.files c.confirm_all-confirmed.new.disk c.args.journal.now).content) (g.D.Disk.files c.confirm_all-confirmed.new.disk)
    (g.D.Disk.files c.close_gate.new.disk) result
    → ReplaysOver g.D.Disk c.args.entries.now c.args.disk.now c.close_gate.new.disk result
closed g c synced ended result puts =
    let looked = c.close_gate.ensures.accounts.was_honest ended in
    let back = c.confirm_all-confirmed.ensures.accounts.was_honest looked in
    let honest = c.apply_and_sync.ensures.accounts.was_honest back in
    replays_closed g.D.Disk c.args.entries.now c.args.disk.now (c.requires.applicable honest).applicable (c.requires.opened honest) c.confirm_all-confirmed.new.disk c.close_gate.new.disk
    (λ name. g.met.D.Disk.content_is_image c.args.disk.now name honest) (λ name. g.met.D.Disk.content_is_image c.confirm_all-confirmed.new.disk name looked)
    (synced looked) c.args.journal.now c.requires.journal result (c.close_gate.ensures.any_moment ended) puts

pub returns-in_err-close_gate-clause-replays : goal.returns-in_err-close_gate-clause-replays
returns-in_err-close_gate-clause-replays g c ended =
    let at = goal.at.returns-in_err-close_gate-clause-replays g c in
    replays_err g.D.Disk c.args.entries.now c.args.disk.now c.close_gate.new.disk c.close_gate.result c.from_residual-in_err-close_gate.result
    (closed g at.After-close_gate (confirmed g at.After-confirm_all-confirmed) ended c.close_gate.result (c.close_gate.ensures.puts ended)) c.from_residual-in_err-close_gate.ensures.0

pub returns-clause-replays : goal.returns-clause-replays
returns-clause-replays g c ended =
    let at = goal.at.returns-clause-replays g c in
    replays_answered g.D.Disk c.args.entries.now c.args.disk.now c.close_gate.new.disk c.confirm_all-confirmed.result
    (closed g at.After-close_gate (confirmed g at.After-confirm_all-confirmed) ended (Ok tt) (c.in_ok-close_gate.ensures.puts ended))
