use Rattle.org_disk.proofs.Accounting.{accounts_call}
use Rattle.org_disk.proofs.Moments.{passes_as}
use Rattle.org_journal.proofs.Accounted.{accounts_failed}
use Rattle.org_journal.proofs.Gates.{behind_write, puts_failed}
use Rattle.org_journal.proofs.gate.arm.Goals as goal

pub returns-in_err-write_at : goal.returns-in_err-write_at
returns-in_err-write_at g c = record {
  any_moment = λ ended.
      passes_as (c.write_at.ensures.time ended)
      (behind_write c.args.journal.now c.args.body.now (g.D.Disk.files c.args.disk.now) (c.requires (c.write_at.ensures.accounts.was_honest ended)));
  puts = λ ended.
      puts_failed c.args.journal.now _ (g.D.Disk.files c.args.disk.now) (g.D.Disk.files c.write_at.new.self) c.from_residual.result c.from_residual.ensures.0 (c.write_at.ensures.effect ended).others;
  accounts = accounts_failed c.from_residual.ensures.0 (accounts_call _ c.in_err-write_at.ensures.accounts);
}
