use Rattle.org_disk.specs.Disk.{AreImages}
use Rattle.std.proofs.Common.{Err, refl, ap, rules}
use Rattle.org_disk.proofs.Accounting.{accounts_fine, accounts_none}
use Rattle.org_journal.proofs.Accounted.{accounts_quiet}
use Rattle.org_disk.proofs.Moments.{passes_none}
use Rattle.org_disk.specs.Names.{journal_name}
use Rattle.org_journal.specs.Recovered.{contents}
use Rattle.org_fileset.specs.Recovery.{RecoversAsBefore}
use Rattle.org_fileset.specs.Writes.{IsUnconcerned}
use Rattle.org_fileset.proofs.Writes.{alone_none}
use Rattle.org_fileset.proofs.Accounted.{accounts_fault}
use Rattle.org_fileset.proofs.Sets.{ok_apart}
use Rattle.org_fileset.proofs.Sizes.{names_reason, names_apart}
use Rattle.org_fileset.proofs.Starting.{since_start}
use Rattle.org_fileset.specs.Left.{IsLeft}
use Rattle.org_fileset.proofs.Recovering.{as_before}
use Rattle.org_fileset.proofs.set.FileSet.open.Goals as goal

-- too many names, or no memory for theirs: the disk is as it was
pub returns-in-Err-clause-opens : goal.returns-in-Err-clause-opens
returns-in-Err-clause-opens g c =
    let d = g.D.Disk in
    let disk = c.args.disk in
    let old = d.files disk in
    record {
      reopens = λ honest.
          let same = since_start (passes_none (d.instant disk) (d.left_since disk) (AreImages old)) old (g.met.D.Disk.only_now disk) honest (λ image left. left) in
          record {
            done = tt;
            any_moment = λ fit each. since_start (passes_none (d.instant disk) (d.left_since disk) (RecoversAsBefore old)) old (g.met.D.Disk.only_now disk) honest (as_before old each);
            recoverable = λ fit each. fit;
            left = λ fit each kept. since_start (passes_none (d.instant disk) (d.left_since disk) IsLeft) old (g.met.D.Disk.only_now disk) honest kept;
            bad = λ none. same;
            idle = λ closed. same;
            alone = alone_none d (IsUnconcerned (contents old journal_name)) disk;
          };
      refused = record { reason = names_reason c.args.names.items (d.honest disk) (contents old) (contents old) c.in-Err.fault c.in-Err.ensures.refused; unused = λ is. refl };
      accounts = accounts_quiet (names_apart _ c.in-Err.fault c.in-Err.ensures.refused) (accounts_none _ _);
    }

pub returns-in-Err-make_ready-clause-opens : goal.returns-in-Err-make_ready-clause-opens
returns-in-Err-make_ready-clause-opens g c = record {
  reopens = λ ended.
      let made = c.in-Err-make_ready.ensures.reopens ended in
      record { done = tt; any_moment = made.any_moment; recoverable = made.recoverable; left = made.left; bad = made.bad; idle = made.idle; alone = made.alone };
  refused = record { reason = search rules; unused = λ is. absurd (c.in-Err-make_ready.ensures.not_too_many (ap (λ e. Err e) is)) };
  accounts = accounts_fault c.in-Err-make_ready.ensures.accounts;
}

pub returns-in-Ok-make_ready-clause-opens : goal.returns-in-Ok-make_ready-clause-opens
returns-in-Ok-make_ready-clause-opens g c = record {
  reopens = λ ended.
      let made = c.in-Ok-make_ready.ensures.reopens ended in
      record { done = made.done; any_moment = made.any_moment; recoverable = made.recoverable; left = made.left; bad = made.bad; idle = made.idle; alone = made.alone };
  refused = tt;
  accounts = accounts_fine ok_apart c.in-Ok-make_ready.ensures.accounts;
}
