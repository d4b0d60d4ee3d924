use Rattle.std.proofs.Common.{◌≡◌, arith}
use Rattle.std.proofs.lemmas.Grind.{common_steps}
use Rattle.org_account.proofs.Accounts.{accounted_by}
use Rattle.org_account.proofs.account.check_rows.Goals as goal

pub returns-clause-ok : goal.returns-clause-ok
returns-clause-ok c =
    let of = c.args.of.now in
    let base : c.of.inside.base ≡ of.base = grind (arith, common_steps, c.of.view_is) in
    let ours : c.of.inside.ours ≡ of.ours = grind (arith, common_steps, c.of.view_is) in
    let theirs : c.of.inside.theirs ≡ of.theirs = grind (arith, common_steps, c.of.view_is) in
    accounted_by c.args.table.now of c.of.inside.base c.of.inside.ours c.of.inside.theirs base ours theirs c.requires c.in_ok-check_each.ensures.ok c.in_ok-check_order.ensures.ok c.in_ok-check_deletions.ensures.ok c.in_ok-check_deletions-2.ensures.ok
