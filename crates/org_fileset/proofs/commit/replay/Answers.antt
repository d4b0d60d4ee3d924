use Rattle.std.proofs.Common.{◌≤◌, ℕ, List, length, sym, subst, arith}
use Rattle.org_disk.specs.Names.{journal_name}
use Rattle.org_disk.proofs.Accounting.{accounts_then, accounts_ok}
use Rattle.org_journal.proofs.Accounted.{accounts_failed}
use Rattle.org_fileset.proofs.Closing.{replays_closed, replays_failed}
use Rattle.org_fileset.proofs.OpenGate.{long_open}
use Rattle.org_fileset.proofs.commit.replay.Goals as goal

pub returns-in_err-apply_and_sync : goal.returns-in_err-apply_and_sync
returns-in_err-apply_and_sync g c = record {
  replays = λ ended.
      let honest = c.apply_and_sync.ensures.accounts.was_honest ended in
      replays_failed g.D.Disk c.args.entries.now c.args.disk.now (c.requires.applicable honest).applicable (c.requires.opened honest) c.apply_and_sync.new.disk
      (c.apply_and_sync.ensures.replays ended) (c.apply_and_sync.ensures.alone ended) c.from_residual.result c.from_residual.ensures.0;
  accounts = accounts_failed c.from_residual.ensures.0 c.in_err-apply_and_sync.ensures.accounts;
}

pub close_gate-requires-clause-nonempty : goal.close_gate-requires-clause-nonempty
close_gate-requires-clause-nonempty g c ended =
    let honest = c.apply_and_sync.ensures.accounts.was_honest ended in
    long_open c.args.entries.now (g.D.Disk.files c.args.disk.now) (g.D.Disk.files c.apply_and_sync.new.disk) (c.requires.applicable honest).applicable (c.requires.opened honest)
    (c.apply_and_sync.ensures.alone ended).same c.args.journal.now c.requires.journal

pub returns : goal.returns
returns g c = record {
  replays = λ ended.
      let back = c.close_gate.ensures.accounts.was_honest ended in
      let honest = c.apply_and_sync.ensures.accounts.was_honest back in
      replays_closed g.D.Disk c.args.entries.now c.args.disk.now (c.requires.applicable honest).applicable (c.requires.opened honest) c.apply_and_sync.new.disk c.close_gate.new.disk
      (λ name. g.met.D.Disk.content_is_image c.args.disk.now name honest) (λ name. g.met.D.Disk.content_is_image c.apply_and_sync.new.disk name back)
      (record {
        replays = c.apply_and_sync.ensures.replays back;
        made = c.in_ok-apply_and_sync.ensures.contents back;
        stable = c.in_ok-apply_and_sync.ensures.stable back;
        alone = c.apply_and_sync.ensures.alone back;
      })
      c.args.journal.now c.requires.journal c.close_gate.result (c.close_gate.ensures.any_moment ended) (c.close_gate.ensures.puts ended);
  accounts = accounts_then (accounts_ok c.in_ok-apply_and_sync.ensures.accounts) c.close_gate.ensures.accounts;
}
