use Rattle.std.proofs.Common.{◌≤◌, List, ℕ, length, Err, refl, sym, subst}
use Rattle.org_disk.specs.Disk.{IsStable}
use Rattle.org_fileset.proofs.Again.{again_ok, again_shut, journal_stays, journal_long}
use Rattle.org_fileset.proofs.commit.try_again.Goals as goal

pub close_gate-requires-clause-stable : goal.close_gate-requires-clause-stable
close_gate-requires-clause-stable g c ended =
    let back = c.look_last.ensures.accounts.was_honest ended in
    let stays = journal_stays g.D.Disk c.args.entries.now c.args.disk.now (c.requires.opened back) c.look_last.new.disk (c.look_last.ensures.tries ended).images
    (λ n. g.met.D.Disk.content_is_image c.look_last.new.disk n ended) in
    subst (λ (n : List ℕ). IsStable (g.D.Disk.files c.look_last.new.disk n)) (sym c.requires.journal) stays

pub returns-in_err-close_gate-in-Err-clause-again : goal.returns-in_err-close_gate-in-Err-clause-again
returns-in_err-close_gate-in-Err-clause-again g c ended =
    let tried = c.close_gate.ensures.accounts.was_honest ended in
    let back = c.look_last.ensures.accounts.was_honest tried in
    again_shut g.D.Disk c.args.entries.now c.args.disk.now (c.requires.opened back) c.args.journal.now c.requires.journal c.look_last.new.disk c.close_gate.new.disk c.in-Err.fault
    (c.in-Err.ensures.tries tried) (λ n. g.met.D.Disk.content_is_image c.look_last.new.disk n tried) (c.close_gate.ensures.any_moment ended) (c.close_gate.ensures.puts ended)
    c.from_residual.result c.from_residual.ensures.0

pub returns-in_ok-close_gate-in-Err-clause-again : goal.returns-in_ok-close_gate-in-Err-clause-again
returns-in_ok-close_gate-in-Err-clause-again g c ended =
    let tried = c.close_gate.ensures.accounts.was_honest ended in
    let back = c.look_last.ensures.accounts.was_honest tried in
    again_shut g.D.Disk c.args.entries.now c.args.disk.now (c.requires.opened back) c.args.journal.now c.requires.journal c.look_last.new.disk c.close_gate.new.disk c.in-Err.fault
    (c.in-Err.ensures.tries tried) (λ n. g.met.D.Disk.content_is_image c.look_last.new.disk n tried) (c.close_gate.ensures.any_moment ended) (c.close_gate.ensures.puts ended)
    (Err c.in-Err.fault) refl

pub returns-in-Ok-clause-again : goal.returns-in-Ok-clause-again
returns-in-Ok-clause-again g c ended =
    let back = c.look_last.ensures.accounts.was_honest ended in
    again_ok g.D.Disk c.args.entries.now c.args.disk.now (c.requires.opened back) c.look_last.new.disk (c.in-Ok.ensures.tries ended)

pub close_gate-requires-clause-nonempty : goal.close_gate-requires-clause-nonempty
close_gate-requires-clause-nonempty g c ended =
    let back = c.look_last.ensures.accounts.was_honest ended in
    let long = journal_long g.D.Disk c.args.entries.now c.args.disk.now (c.requires.opened back) c.look_last.new.disk (c.look_last.ensures.tries ended).images
    (λ n. g.met.D.Disk.content_is_image c.look_last.new.disk n ended) in
    subst (λ (n : List ℕ). 1 ≤ length (g.D.Disk.files c.look_last.new.disk n).content) (sym c.requires.journal) long
