use Rattle.std.proofs.Common.{◌≡◌, ◌≤◌, ◌<◌, ℕ, List, length, Ok, sym, subst, arith}
use Rattle.org_journal.specs.Gate.{front_size}
use Rattle.org_fileset.proofs.OpenGate.{on_ok_never}
use Rattle.org_fileset.proofs.Reopening.{gate_stays, gate_given}
use Rattle.org_fileset.proofs.recover.give_gate.Goals as goal

pub returns-in_err-length-clause-reopens : goal.returns-in_err-length-clause-reopens
returns-in_err-length-clause-reopens g c ended =
    let d = g.D.Disk in
    let old = c.args.disk.now in
    let honest = c.length.ensures.accounts.was_honest ended in
    gate_stays d old (λ image left. g.met.D.Disk.only_now old image honest left) (λ name. g.met.D.Disk.content_is_image old name honest) c.length.new.self c.from_residual.result
    (c.requires.stable honest) (c.requires.closed honest) (c.length.ensures.looks ended) (on_ok_never _ c.from_residual.result c.from_residual.ensures.0)

pub returns-then-branch-lt-FRONT-clause-reopens : goal.returns-then-branch-lt-FRONT-clause-reopens
returns-then-branch-lt-FRONT-clause-reopens g c ended =
    let d = g.D.Disk in
    let old = c.args.disk.now in
    let mid = c.prepare.ensures.accounts.was_honest ended in
    let honest = c.length.ensures.accounts.was_honest mid in
    let asked : length (d.files old c.args.journal.now).content ≡ _ = sym (c.in_ok-length.ensures.value mid) in
    let short = subst (λ (n : List ℕ). length (d.files old n).content < front_size) c.requires.journal (omega (arith, asked, c.if-branch-lt-FRONT.true)) in
    gate_given d old (λ image left. g.met.D.Disk.only_now old image honest left) (λ name. g.met.D.Disk.content_is_image old name honest) c.args.journal.now c.length.new.self
    c.prepare.new.disk c.prepare.result c.requires.journal (c.requires.closed honest) short (c.length.ensures.looks mid) (c.prepare.ensures.any_moment ended) (c.prepare.ensures.puts ended)

pub returns-clause-reopens : goal.returns-clause-reopens
returns-clause-reopens g c ended =
    let d = g.D.Disk in
    let old = c.args.disk.now in
    let honest = c.length.ensures.accounts.was_honest ended in
    let asked : length (d.files old c.args.journal.now).content ≡ _ = sym (c.in_ok-length.ensures.value ended) in
    let long = subst (λ (n : List ℕ). front_size ≤ length (d.files old n).content) c.requires.journal (omega (arith, asked, c.if-branch-lt-FRONT.false)) in
    gate_stays d old (λ image left. g.met.D.Disk.only_now old image honest left) (λ name. g.met.D.Disk.content_is_image old name honest) c.length.new.self (Ok tt)
    (c.requires.stable honest) (c.requires.closed honest) (c.length.ensures.looks ended) long
