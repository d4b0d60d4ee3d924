use Rattle.std.proofs.Common.{◌∷◌, [], ◌∙◌, sym}
use Rattle.org_disk.proofs.Accounting.{accounts_call, accounts_call_ok, accounts_then}
use Rattle.org_journal.proofs.Accounted.{accounts_failed, accounts_still}
use Rattle.org_disk.proofs.Moments.{passes_as, passes_then}
use Rattle.org_journal.proofs.Gates.{gate_write, gate_lost, gate_sync, left_by, overwritten_gate, puts, puts_failed}
use Rattle.org_journal.proofs.gate.set_gate.Goals as goal

pub returns-in_err-write_at : goal.returns-in_err-write_at
returns-in_err-write_at g c = record {
  any_moment = λ ended.
      passes_as (c.write_at.ensures.time ended)
      (gate_write c.args.journal.now c.args.gate (g.D.Disk.files c.args.disk.now) (c.requires (c.write_at.ensures.accounts.was_honest ended)));
  puts = λ ended.
      puts_failed c.args.journal.now _ (g.D.Disk.files c.args.disk.now) (g.D.Disk.files c.write_at.new.self) c.from_residual.result c.from_residual.ensures.0 (c.write_at.ensures.effect ended).others;
  accounts = accounts_failed c.from_residual.ensures.0 (accounts_call _ c.in_err-write_at.ensures.accounts);
}

pub returns-then-is_err : goal.returns-then-is_err
returns-then-is_err g c = record {
  any_moment = λ ended.
      let failed = c.write_at-then-is_err.ensures.accounts.was_honest ended in
      let at_sync = c.sync-synced.ensures.accounts.was_honest failed in
      let stable = c.requires (c.write_at.ensures.accounts.was_honest at_sync) in
      let written = c.in_ok-write_at.ensures.effect at_sync in
      let files = g.D.Disk.files c.args.disk.now in
      let behind = passes_as (c.write_at.ensures.time at_sync) (gate_write c.args.journal.now c.args.gate files stable) in
      let synced = passes_then behind (c.sync-synced.ensures.time failed)
      (gate_sync c.args.journal.now c.args.gate files stable (g.D.Disk.files c.write_at.new.self) written.ok written.others) in
      passes_then synced (c.write_at-then-is_err.ensures.time ended)
      (gate_lost c.args.journal.now c.args.gate files stable (g.D.Disk.files c.write_at.new.self) (g.D.Disk.files c.sync-synced.new.self) 2 written.ok written.others
      (left_by c.sync-synced.result (sym c.is_err.ensures.value ∙ c.if-is_err.true) (c.sync-synced.ensures.effect failed)) (c.sync-synced.ensures.effect failed).others
      (g.met.D.Disk.content_is_image c.sync-synced.new.self c.args.journal.now failed));
  puts = λ ended.
      let failed = c.write_at-then-is_err.ensures.accounts.was_honest ended in
      let written = c.in_ok-write_at.ensures.effect (c.sync-synced.ensures.accounts.was_honest failed) in
      puts_failed c.args.journal.now _ (g.D.Disk.files c.args.disk.now) (g.D.Disk.files c.write_at-then-is_err.new.self) c.sync-synced.result (sym c.is_err.ensures.value ∙ c.if-is_err.true)
      (λ other apart. (c.write_at-then-is_err.ensures.effect ended).others other apart ∙ (c.sync-synced.ensures.effect failed).others other apart ∙ written.others other apart);
  accounts = accounts_still (sym c.is_err.ensures.value ∙ c.if-is_err.true)
      (accounts_then (accounts_call_ok c.in_ok-write_at.ensures.accounts) (accounts_call _ c.sync-synced.ensures.accounts)) (accounts_call _ c.write_at-then-is_err.ensures.accounts);
}

pub returns-else-is_err : goal.returns-else-is_err
returns-else-is_err g c = record {
  any_moment = λ ended.
      let at_sync = c.sync-synced.ensures.accounts.was_honest ended in
      let stable = c.requires (c.write_at.ensures.accounts.was_honest at_sync) in
      let written = c.in_ok-write_at.ensures.effect at_sync in
      let behind = passes_as (c.write_at.ensures.time at_sync)
      (gate_write c.args.journal.now c.args.gate (g.D.Disk.files c.args.disk.now) stable) in
      passes_then behind (c.sync-synced.ensures.time ended)
      (gate_sync c.args.journal.now c.args.gate (g.D.Disk.files c.args.disk.now) stable
      (g.D.Disk.files c.write_at.new.self) written.ok written.others);
  puts = λ ended.
      let written = c.in_ok-write_at.ensures.effect (c.sync-synced.ensures.accounts.was_honest ended) in
      puts c.args.journal.now 0 (c.args.gate ∷ []) _ (g.D.Disk.files c.args.disk.now) (g.D.Disk.files c.write_at.new.self) (g.D.Disk.files c.sync-synced.new.self) c.sync-synced.result
      (overwritten_gate c.args.gate (g.D.Disk.files c.args.disk.now c.args.journal.now).content) written.ok written.others (c.sync-synced.ensures.effect ended);
  accounts = accounts_then (accounts_call_ok c.in_ok-write_at.ensures.accounts) (accounts_call _ c.sync-synced.ensures.accounts);
}
