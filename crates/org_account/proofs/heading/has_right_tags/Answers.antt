use Rattle.std.proofs.Common.{◌≡◌, arith}
use Rattle.std.proofs.lemmas.Grind.{common_steps}
use Rattle.org_account.proofs.Tags.{right_tags_by}
use Rattle.org_account.proofs.heading.has_right_tags.Goals as goal

pub returns : goal.returns
returns c = λ holds.
    let merged : c.tags.inside.merged.now ≡ c.args.tags.now.merged = grind (arith, common_steps, c.tags.view_is) in
    let ours : c.tags.inside.ours.now ≡ c.args.tags.now.ours = grind (arith, common_steps, c.tags.view_is) in
    let theirs : c.tags.inside.theirs.now ≡ c.args.tags.now.theirs = grind (arith, common_steps, c.tags.view_is) in
    right_tags_by c.args.tags.now _ _ _ merged ours theirs (c.are_right.ensures c.if-not-are_right.false) (c.are_right-2.ensures c.if-not-are_right-2.false) (c.are_right-3.ensures holds)
