use Rattle.std.proofs.Common.{◌≡◌, arith}
use Rattle.std.proofs.lemmas.Grind.{common_steps}
use Rattle.org_account.proofs.EachLine.{due_all, union_by}
use Rattle.org_account.proofs.union.is_union.Goals as goal

pub returns-then-ours : goal.returns-then-ours
returns-then-ours c = λ holds.
    let ours : c.texts.inside.ours.now ≡ c.args.texts.now.ours = grind (arith, common_steps, c.texts.view_is) in
    let theirs : c.texts.inside.theirs.now ≡ c.args.texts.now.theirs = grind (arith, common_steps, c.texts.view_is) in
    union_by c.args.texts.now c.texts.inside.ours.now c.texts.inside.theirs.now ours theirs
    (c.are_kept.ensures c.if-not-are_kept.false) (c.are_kept-2.ensures c.if-not-are_kept-2.false) (due_all c.args.texts.now (c.are_due.ensures c.if-not-are_due.false)) (c.are_single.ensures c.if-not-are_single.false)
    (c.in_ok-ours.ensures c.if-ours.true) (c.in_ok-theirs.ensures holds)
