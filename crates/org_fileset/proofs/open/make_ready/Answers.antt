use Rattle.std.proofs.Common.{List, ℕ, Option, ap, sym, subst}
use Rattle.std.proofs.lemmas.Result.{on_ok_weaker}
use Rattle.std.specs.Prelude.{IsSomeAnd}
use Rattle.org_disk.proofs.Moments.{passes_then}
use Rattle.org_journal.specs.Recovered.{Image, SameFiles, IsRecoverable, contents}
use Rattle.org_fileset.specs.Recovery.{IsReopened}
use Rattle.org_fileset.proofs.OpenGate.{on_ok_always}
use Rattle.org_disk.specs.Disk.{FileState}
use Rattle.org_disk.specs.Names.{journal_name}
use Rattle.org_fileset.specs.Writes.{IsUnconcerned}
use Rattle.org_journal.proofs.Accounted.{accounts_after, accounts_passed}
use Rattle.org_fileset.proofs.Sets.{passed_never}
use Rattle.org_fileset.proofs.Sizes.{recovered_few, answer_recovered, answer_sized}
use Rattle.org_fileset.proofs.Noted.{lengths_as}
use Rattle.org_fileset.proofs.Starting.{since_start}
use Rattle.org_fileset.proofs.Writes.{alone_looks, alone_then}
use Rattle.org_fileset.proofs.Commits.{rest_left}
use Rattle.org_fileset.proofs.Recovering.{as_before}
use Rattle.org_fileset.proofs.Sorted.{left_after}
use Rattle.org_fileset.proofs.open.make_ready.Goals as goal

pub returns-in_err-recover-clause-reopens : goal.returns-in_err-recover-clause-reopens
returns-in_err-recover-clause-reopens g c ended =
    let made = c.recover.ensures.reopens ended in
    record { done = passed_never _ _ c.from_residual.result c.from_residual.ensures.1; any_moment = made.any_moment; recoverable = made.recoverable; left = made.left; bad = made.bad; idle = made.idle; alone = made.alone }

pub returns-clause-reopens : goal.returns-clause-reopens
returns-clause-reopens g c ended =
    let h1 = c.check_sizes.ensures.accounts.was_honest ended in
    let honest = c.recover.ensures.accounts.was_honest h1 in
    let old = g.D.Disk.files c.args.disk.now in
    let mid = g.D.Disk.files c.recover.new.disk in
    let made = c.in_ok-recover.ensures.reopens h1 in
    let looks = c.check_sizes.ensures.looks ended in
    let own = λ (name : List ℕ). g.met.D.Disk.content_is_image c.args.disk.now name honest in
    record {
      done = on_ok_always c.check_sizes.result (subst (IsReopened old) (sym looks.same) made.done);
      any_moment = λ fit each. since_start (passes_then (made.any_moment fit each).passes looks.time (left_after old mid own made.done.recovered_then (made.done.rest fit each)))
          old (g.met.D.Disk.only_now c.args.disk.now) honest (as_before old each);
      recoverable = λ fit each. subst IsRecoverable (sym looks.same) (made.recoverable fit each);
      left = λ fit each kept. since_start (passes_then (made.left fit each kept).passes looks.time (rest_left mid (made.done.rest fit each)))
          old (g.met.D.Disk.only_now c.args.disk.now) honest kept;
      bad = λ none. absurd (subst (λ (o : Option Image). IsSomeAnd o (SameFiles (contents mid))) none made.done.recovered_then);
      idle = λ closed.
          let leaves = made.idle closed in
          since_start (passes_then leaves.passes looks.time (λ image left. leaves.each image (g.met.D.Disk.counts_now c.recover.new.disk (g.D.Disk.instant c.args.disk.now) image h1 leaves.passes.later left)))
          old (g.met.D.Disk.only_now c.args.disk.now) honest (λ image left. left);
      alone = alone_then g.D.Disk (IsUnconcerned (contents old journal_name)) c.args.disk.now c.recover.new.disk c.check_sizes.new.disk made.alone
          (alone_looks g.D.Disk (IsUnconcerned (contents old journal_name)) c.recover.new.disk c.check_sizes.new.disk looks);
    }

pub returns-in_err-recover-clause-accounts : goal.returns-in_err-recover-clause-accounts
returns-in_err-recover-clause-accounts g c =
    accounts_passed c.from_residual.ensures.1 c.in_err-recover.ensures.accounts

pub returns-clause-accounts : goal.returns-clause-accounts
returns-clause-accounts g c = accounts_after c.in_ok-recover.ensures.accounts c.check_sizes.ensures.accounts

pub returns-in_err-recover-clause-answer : goal.returns-in_err-recover-clause-answer
returns-in_err-recover-clause-answer g c ended =
    let files = g.D.Disk.files in
    answer_recovered (contents (files c.args.disk.now)) (contents (files c.recover.new.disk)) c.args.names.now c.from_residual.result c.in_err-recover.field-0.0 c.from_residual.ensures.1
    c.in_err-recover.ensures.fault ended

pub returns-in_err-recover-clause-not_too_many : goal.returns-in_err-recover-clause-not_too_many
returns-in_err-recover-clause-not_too_many g c =
    let files = g.D.Disk.files in
    recovered_few (g.D.Disk.honest c.recover.new.disk) (contents (files c.args.disk.now)) (contents (files c.recover.new.disk)) c.in_err-recover.field-0.0 c.from_residual.ensures.1 c.in_err-recover.ensures.fault

pub returns-clause-answer : goal.returns-clause-answer
returns-clause-answer g c ended =
    let files = g.D.Disk.files in
    let honest = c.check_sizes.ensures.accounts.was_honest ended in
    answer_sized (files c.args.disk.now) (files c.recover.new.disk) (files c.check_sizes.new.disk) c.args.names.now c.check_sizes.result (c.in_ok-recover.ensures.reopens honest).done (c.check_sizes.ensures.looks ended).same
    (c.check_sizes.ensures.sizes ended)

pub returns-clause-not_too_many : goal.returns-clause-not_too_many
returns-clause-not_too_many g c = c.check_sizes.ensures.not_too_many

pub returns-in_err-recover-clause-lengths : goal.returns-in_err-recover-clause-lengths
returns-in_err-recover-clause-lengths g c = passed_never _ _ c.from_residual.result c.from_residual.ensures.1

pub returns-clause-lengths : goal.returns-clause-lengths
returns-clause-lengths g c = on_ok_weaker c.check_sizes.result (λ had ended.
    let looks = c.check_sizes.ensures.looks ended in
    lengths_as c.args.names.now _ (contents (g.D.Disk.files c.recover.new.disk)) (contents (g.D.Disk.files c.check_sizes.new.disk)) (ap (λ (f : List ℕ → FileState). contents f) looks.same) (had ended))
    c.check_sizes.ensures.lengths
