use Rattle.std.proofs.Common.{◌∷◌, [], refl}
use Rattle.org_disk.proofs.Accounting.{accounts_call, accounts_call_ok, accounts_then}
use Rattle.org_disk.proofs.Moments.{passes_as, passes_then}
use Rattle.org_journal.proofs.Accounted.{accounts_failed}
use Rattle.org_journal.proofs.Gates.{mark_after, mark_failed, mark_sync, mark_write, puts, puts_failed}
use Rattle.org_journal.proofs.gate.mark.Goals as goal

pub returns-in_err-write_at-clause-put : goal.returns-in_err-write_at-clause-put
returns-in_err-write_at-clause-put g c =
    let files = g.D.Disk.files c.args.disk.now in
    record {
      any_moment = λ ended.
          let honest = c.write_at.ensures.accounts.was_honest ended in
          passes_as (c.write_at.ensures.time ended) (mark_write c.args.journal.now c.args.end files (c.requires.stable honest) (c.requires.end honest));
      puts = λ ended.
          puts_failed c.args.journal.now _ files (g.D.Disk.files c.write_at.new.self) c.from_residual.result c.from_residual.ensures.0 (c.write_at.ensures.effect ended).others;
      accounts = accounts_failed c.from_residual.ensures.0 (accounts_call _ c.in_err-write_at.ensures.accounts);
    }

pub returns-in_err-write_at-clause-images : goal.returns-in_err-write_at-clause-images
returns-in_err-write_at-clause-images g c ended =
    let honest = c.write_at.ensures.accounts.was_honest ended in
    mark_failed c.args.journal.now c.args.end (g.D.Disk.files c.args.disk.now) (c.requires.stable honest) (c.requires.end honest)
    (g.D.Disk.files c.write_at.new.self) (c.in_err-write_at.ensures.effect ended).err

pub returns-clause-put : goal.returns-clause-put
returns-clause-put g c =
    let files = g.D.Disk.files c.args.disk.now in
    let mid = g.D.Disk.files c.write_at.new.self in
    record {
      any_moment = λ ended.
          let at_sync = c.sync.ensures.accounts.was_honest ended in
          let honest = c.write_at.ensures.accounts.was_honest at_sync in
          let written = c.in_ok-write_at.ensures.effect at_sync in
          passes_then (passes_as (c.write_at.ensures.time at_sync) (mark_write c.args.journal.now c.args.end files (c.requires.stable honest) (c.requires.end honest)))
          (c.sync.ensures.time ended)
          (mark_sync c.args.journal.now c.args.end files (c.requires.stable honest) (c.requires.end honest) mid written.ok written.others);
      puts = λ ended.
          let written = c.in_ok-write_at.ensures.effect (c.sync.ensures.accounts.was_honest ended) in
          puts c.args.journal.now c.args.end (0 ∷ []) _ files mid (g.D.Disk.files c.sync.new.self) c.sync.result refl written.ok written.others (c.sync.ensures.effect ended);
      accounts = accounts_then (accounts_call_ok c.in_ok-write_at.ensures.accounts) (accounts_call _ c.sync.ensures.accounts);
    }

pub returns-clause-images : goal.returns-clause-images
returns-clause-images g c ended =
    let at_sync = c.sync.ensures.accounts.was_honest ended in
    let honest = c.write_at.ensures.accounts.was_honest at_sync in
    let written = c.in_ok-write_at.ensures.effect at_sync in
    mark_after c.args.journal.now c.args.end (g.D.Disk.files c.args.disk.now) (c.requires.stable honest) (c.requires.end honest)
    (g.D.Disk.files c.write_at.new.self) written.ok (g.D.Disk.files c.sync.new.self) c.sync.result (c.sync.ensures.effect ended)
