use Rattle.std.proofs.Common.{◌≡◌, List, [], ◌∷◌, ℕ, subst}
use Rattle.org_splice.specs.Overwritten.{overwritten}
use Rattle.org_fileset.proofs.OpenGate.{on_ok_never}
use Rattle.org_fileset.proofs.Reopening.{mark_reopens, marked_applicable, marked_over, redone_reopens}
use Rattle.org_fileset.proofs.recover.redo_marked.Goals as goal

pub returns-in_err-mark-clause-reopens : goal.returns-in_err-mark-clause-reopens
returns-in_err-mark-clause-reopens g c ended =
    let d = g.D.Disk in
    let old = c.args.disk.now in
    let honest = c.mark.ensures.put.accounts.was_honest ended in
    mark_reopens d old (λ image left. g.met.D.Disk.only_now old image honest left) (λ name. g.met.D.Disk.content_is_image old name honest)
    c.args.entries.now c.args.end (c.requires.opened honest) (c.requires.applicable honest) (c.requires.end honest) c.args.journal.now c.requires.journal c.mark.new.disk
    (c.mark.ensures.put.any_moment ended) (c.mark.ensures.put.puts ended) (c.mark.ensures.images ended)
    c.from_residual.result (on_ok_never _ c.from_residual.result c.from_residual.ensures.0)

pub returns-clause-reopens : goal.returns-clause-reopens
returns-clause-reopens g c ended =
    let d = g.D.Disk in
    let old = c.args.disk.now in
    let mid = c.replay.ensures.accounts.was_honest ended in
    let honest = c.mark.ensures.put.accounts.was_honest mid in
    redone_reopens d old (λ image left. g.met.D.Disk.only_now old image honest left) (λ name. g.met.D.Disk.content_is_image old name honest)
    c.args.entries.now c.args.end (c.requires.opened honest) (c.requires.applicable honest) (c.requires.end honest) c.args.journal.now c.requires.journal c.mark.new.disk
    (c.mark.ensures.put.any_moment mid) (c.in_ok-mark.ensures.put.puts mid) (c.mark.ensures.images mid)
    c.replay.new.disk c.replay.result
    (subst (λ (n : List ℕ). (d.files c.mark.new.disk n).content ≡ overwritten c.args.end (0 ∷ []) (d.files old n).content) c.requires.journal (c.in_ok-mark.ensures.put.puts mid).is)
    (c.replay.ensures.replays ended)

pub replay-requires-clause-opened : goal.replay-requires-clause-opened
replay-requires-clause-opened g c mid =
    let d = g.D.Disk in
    let old = c.args.disk.now in
    let honest = c.mark.ensures.put.accounts.was_honest mid in
    marked_over d old (λ image left. g.met.D.Disk.only_now old image honest left) (λ name. g.met.D.Disk.content_is_image old name honest)
    c.args.entries.now c.args.end (c.requires.opened honest) (c.requires.applicable honest) (c.requires.end honest) c.args.journal.now c.requires.journal c.mark.new.disk
    (c.mark.ensures.put.any_moment mid) (c.in_ok-mark.ensures.put.puts mid) (c.mark.ensures.images mid)

pub replay-requires-clause-applicable : goal.replay-requires-clause-applicable
replay-requires-clause-applicable g c mid =
    let d = g.D.Disk in
    let old = c.args.disk.now in
    let honest = c.mark.ensures.put.accounts.was_honest mid in
    marked_applicable d old (λ image left. g.met.D.Disk.only_now old image honest left) (λ name. g.met.D.Disk.content_is_image old name honest)
    c.args.entries.now c.args.end (c.requires.opened honest) (c.requires.applicable honest) (c.requires.end honest) c.args.journal.now c.requires.journal c.mark.new.disk
    (c.mark.ensures.put.any_moment mid) (c.in_ok-mark.ensures.put.puts mid) (c.mark.ensures.images mid)
