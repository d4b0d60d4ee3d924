use Rattle.std.proofs.Common.{Ok}
use Rattle.org_disk.proofs.Accounting.{accounts_then, accounts_ok}
use Rattle.org_journal.proofs.Accounted.{accounts_failed}
use Rattle.org_fileset.proofs.OpenGate.{on_ok_never}
use Rattle.org_fileset.proofs.Commits.{WritesRecord, open_writes, opened_writes, still_can, still_made}
use Rattle.org_fileset.proofs.Confirming.{texts_made}
use Rattle.org_fileset.proofs.Tried.{applicable_tried, gate_tried, writes_tried, commits_failed, commits_unwritten, commits_written}
use Rattle.org_fileset.proofs.Again.{commits_again, writes_again}
use Rattle.org_fileset.proofs.commit.commit_and_confirm.Given.{Over}
use Rattle.org_fileset.proofs.commit.commit_and_confirm.Goals as goal
use Rattle.org_fileset.proofs.commit.commit_and_confirm.Goals.{In_ok-open_gate, In_ok-try_again}

-- the gate is open over the record
written : (g : Over) (c : In_ok-open_gate g) → g.D.Disk.honest c.open_gate.new.disk
    → WritesRecord g.D.Disk c.args.entries.now c.args.disk.now c.open_gate.new.disk (Ok tt)
written g c ended =
    let d = g.D.Disk in
    let armed = c.open_gate.ensures.put.accounts.was_honest ended in
    let tried = c.arm.ensures.accounts.was_honest armed in
    let honest = c.try_all.ensures.accounts.was_honest tried in
    let entries = c.args.entries.now in
    let disk = c.args.disk.now in
    let same = (c.in_ok-try_all.ensures.tries tried).ok in
    writes_tried d entries disk c.try_all.new.disk same c.open_gate.new.disk (Ok tt)
    (opened_writes d c.try_all.new.disk c.args.journal.now c.requires.journal entries (applicable_tried d entries disk c.try_all.new.disk same (c.requires.applicable honest))
    (gate_tried d entries disk c.try_all.new.disk same (c.requires.gate honest)) c.args.body.now c.requires.body c.arm.new.disk c.open_gate.new.disk (Ok tt)
    (c.arm.ensures.any_moment armed) (c.in_ok-arm.ensures.puts armed) (c.open_gate.ensures.put.any_moment ended) (c.in_ok-open_gate.ensures.put.puts ended))

-- .. and after it the files are as they were
tried_again : (g : Over) (c : In_ok-try_again g) → (g.D.Disk.honest c.open_gate.new.disk → WritesRecord g.D.Disk c.args.entries.now c.args.disk.now c.open_gate.new.disk (Ok tt))
    → g.D.Disk.honest c.try_again.new.disk → WritesRecord g.D.Disk c.args.entries.now c.args.disk.now c.try_again.new.disk (Ok tt)
tried_again g c record_written ended =
    let opened = c.try_again.ensures.accounts.was_honest ended in
    let tried = c.arm.ensures.accounts.was_honest (c.open_gate.ensures.put.accounts.was_honest opened) in
    let can = c.requires.applicable (c.try_all.ensures.accounts.was_honest tried) in
    writes_again g.D.Disk c.args.entries.now c.args.disk.now c.open_gate.new.disk tt (record_written opened) can c.try_again.new.disk (c.in_ok-try_again.ensures.again ended).ok

pub returns-in_err-try_all : goal.returns-in_err-try_all
returns-in_err-try_all g c = record {
  commits = λ ended.
      let honest = c.try_all.ensures.accounts.was_honest ended in
      commits_failed g.D.Disk c.args.entries.now c.args.disk.now (λ image left. g.met.D.Disk.only_now c.args.disk.now image honest left)
      c.try_all.new.disk c.try_all.result (c.try_all.ensures.tries ended) (λ n. g.met.D.Disk.content_is_image c.try_all.new.disk n ended)
      c.from_residual.result c.from_residual.ensures.0;
  accounts = accounts_failed c.from_residual.ensures.0 c.in_err-try_all.ensures.accounts;
}

pub returns-in_err-arm : goal.returns-in_err-arm
returns-in_err-arm g c = record {
  commits = λ ended.
      let d = g.D.Disk in
      let tried = c.arm.ensures.accounts.was_honest ended in
      let honest = c.try_all.ensures.accounts.was_honest tried in
      let entries = c.args.entries.now in
      let disk = c.args.disk.now in
      let same = (c.in_ok-try_all.ensures.tries tried).ok in
      let result = c.from_residual-in_err-arm.result in
      let failed = c.from_residual-in_err-arm.ensures.0 in
      commits_unwritten d entries disk (λ image left. g.met.D.Disk.only_now disk image honest left) c.arm.new.disk result
      (writes_tried d entries disk c.try_all.new.disk same c.arm.new.disk result
      (open_writes d c.try_all.new.disk c.args.journal.now c.requires.journal entries (applicable_tried d entries disk c.try_all.new.disk same (c.requires.applicable honest))
      c.arm.new.disk c.arm.result result (c.arm.ensures.any_moment ended) (c.arm.ensures.puts ended) (on_ok_never _ result failed)))
      result failed;
  accounts = accounts_then (accounts_ok c.in_ok-try_all.ensures.accounts) (accounts_failed c.from_residual-in_err-arm.ensures.0 c.in_err-arm.ensures.accounts);
}

pub returns-in_err-open_gate : goal.returns-in_err-open_gate
returns-in_err-open_gate g c = record {
  commits = λ ended.
      let d = g.D.Disk in
      let armed = c.open_gate.ensures.put.accounts.was_honest ended in
      let tried = c.arm.ensures.accounts.was_honest armed in
      let honest = c.try_all.ensures.accounts.was_honest tried in
      let entries = c.args.entries.now in
      let disk = c.args.disk.now in
      let same = (c.in_ok-try_all.ensures.tries tried).ok in
      commits_unwritten d entries disk (λ image left. g.met.D.Disk.only_now disk image honest left) c.open_gate.new.disk c.open_gate.result
      (writes_tried d entries disk c.try_all.new.disk same c.open_gate.new.disk c.open_gate.result
      (opened_writes d c.try_all.new.disk c.args.journal.now c.requires.journal entries (applicable_tried d entries disk c.try_all.new.disk same (c.requires.applicable honest))
      (gate_tried d entries disk c.try_all.new.disk same (c.requires.gate honest)) c.args.body.now c.requires.body c.arm.new.disk c.open_gate.new.disk c.open_gate.result
      (c.arm.ensures.any_moment armed) (c.in_ok-arm.ensures.puts armed) (c.open_gate.ensures.put.any_moment ended) (c.open_gate.ensures.put.puts ended)))
      c.from_residual-in_err-open_gate.result c.from_residual-in_err-open_gate.ensures.0;
  accounts = accounts_then (accounts_ok c.in_ok-try_all.ensures.accounts) (accounts_then (accounts_ok c.in_ok-arm.ensures.accounts)
      (accounts_failed c.from_residual-in_err-open_gate.ensures.0 c.in_err-open_gate.ensures.put.accounts));
}

pub try_again-requires-clause-applicable : goal.try_again-requires-clause-applicable
try_again-requires-clause-applicable g c ended =
    let tried = c.arm.ensures.accounts.was_honest (c.open_gate.ensures.put.accounts.was_honest ended) in
    let can = c.requires.applicable (c.try_all.ensures.accounts.was_honest tried) in
    still_can c.args.entries.now (g.D.Disk.files c.args.disk.now) can (g.D.Disk.files c.open_gate.new.disk) (written g (goal.at.try_again-requires-clause-applicable g c).In_ok-open_gate ended).others

pub try_again-requires-clause-opened : goal.try_again-requires-clause-opened
try_again-requires-clause-opened g c ended = (written g (goal.at.try_again-requires-clause-opened g c).In_ok-open_gate ended).opened

pub returns-in_err-try_again : goal.returns-in_err-try_again
returns-in_err-try_again g c = record {
  commits = λ ended.
      let opened = c.try_again.ensures.accounts.was_honest ended in
      let tried = c.arm.ensures.accounts.was_honest (c.open_gate.ensures.put.accounts.was_honest opened) in
      let honest = c.try_all.ensures.accounts.was_honest tried in
      let disk = c.args.disk.now in
      commits_again g.D.Disk c.args.entries.now disk c.open_gate.new.disk tt (written g (goal.at.returns-in_err-try_again g c).In_ok-open_gate opened) (c.requires.applicable honest)
      (λ image left. g.met.D.Disk.only_now disk image honest left) c.try_again.new.disk c.try_again.result (c.try_again.ensures.again ended)
      (λ n. g.met.D.Disk.content_is_image c.try_again.new.disk n ended) c.from_residual-in_err-try_again.result c.from_residual-in_err-try_again.ensures.0;
  accounts = accounts_then (accounts_ok c.in_ok-try_all.ensures.accounts) (accounts_then (accounts_ok c.in_ok-arm.ensures.accounts)
      (accounts_then (accounts_ok c.in_ok-open_gate.ensures.put.accounts) (accounts_failed c.from_residual-in_err-try_again.ensures.0 c.in_err-try_again.ensures.accounts)));
}

pub replay_and_confirm-requires-clause-applicable : goal.replay_and_confirm-requires-clause-applicable
replay_and_confirm-requires-clause-applicable g c ended =
    let opened = c.try_again.ensures.accounts.was_honest ended in
    let tried = c.arm.ensures.accounts.was_honest (c.open_gate.ensures.put.accounts.was_honest opened) in
    let can = c.requires.applicable (c.try_all.ensures.accounts.was_honest tried) in
    let at = goal.at.replay_and_confirm-requires-clause-applicable g c in
    still_can c.args.entries.now (g.D.Disk.files c.args.disk.now) can (g.D.Disk.files c.try_again.new.disk) (tried_again g at.In_ok-try_again (written g at.In_ok-open_gate) ended).others

pub replay_and_confirm-requires-clause-opened : goal.replay_and_confirm-requires-clause-opened
replay_and_confirm-requires-clause-opened g c ended =
    let at = goal.at.replay_and_confirm-requires-clause-opened g c in
    (tried_again g at.In_ok-try_again (written g at.In_ok-open_gate) ended).opened

pub replay_and_confirm-requires-clause-texts : goal.replay_and_confirm-requires-clause-texts
replay_and_confirm-requires-clause-texts g c ended =
    let opened = c.try_again.ensures.accounts.was_honest ended in
    let tried = c.arm.ensures.accounts.was_honest (c.open_gate.ensures.put.accounts.was_honest opened) in
    let honest = c.try_all.ensures.accounts.was_honest tried in
    let at = goal.at.replay_and_confirm-requires-clause-texts g c in
    let others = (tried_again g at.In_ok-try_again (written g at.In_ok-open_gate) ended).others in
    texts_made (g.C.Changes.pairs c.args.changes.now) _ _
    (λ name not. still_made c.args.entries.now (g.D.Disk.files c.args.disk.now) (c.requires.applicable honest) (g.D.Disk.files c.try_again.new.disk) others name not)
    (c.requires.texts honest) c.requires.named

pub returns : goal.returns
returns g c = record {
  commits = λ ended.
      let d = g.D.Disk in
      let again = c.replay_and_confirm.ensures.accounts.was_honest ended in
      let opened = c.try_again.ensures.accounts.was_honest again in
      let tried = c.arm.ensures.accounts.was_honest (c.open_gate.ensures.put.accounts.was_honest opened) in
      let honest = c.try_all.ensures.accounts.was_honest tried in
      let disk = c.args.disk.now in
      let at = goal.at.returns g c in
      commits_written d c.args.entries.now disk (λ image left. g.met.D.Disk.only_now disk image honest left) (c.requires.applicable honest) c.try_again.new.disk c.replay_and_confirm.new.disk tt
      (tried_again g at.In_ok-try_again (written g at.In_ok-open_gate) again) c.replay_and_confirm.result (c.replay_and_confirm.ensures.replays ended);
  accounts = accounts_then (accounts_ok c.in_ok-try_all.ensures.accounts) (accounts_then (accounts_ok c.in_ok-arm.ensures.accounts)
      (accounts_then (accounts_ok c.in_ok-open_gate.ensures.put.accounts) (accounts_then (accounts_ok c.in_ok-try_again.ensures.accounts)
      c.replay_and_confirm.ensures.accounts)));
}
