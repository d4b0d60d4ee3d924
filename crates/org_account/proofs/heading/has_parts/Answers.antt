use Rattle.std.proofs.Common.{◌∷◌}
use Rattle.org_account.proofs.Tags.{part_by, tags_by}
use Rattle.org_account.proofs.heading.has_parts.Goals as goal

pub returns : goal.returns
returns c = λ holds.
    let told = c.args.told.now in
    let heading = 42 ∷ c.args.theirs.now in
    let b = c.of-b.ensures in
    let o = c.of-o.ensures in
    let t = c.of-t.ensures in
    let r = c.of-r.ensures in
    record {
      keyword = part_by told heading _ _ _ _ _ _ _ _ b.keyword o.keyword t.keyword r.keyword (c.is_part.ensures c.if-not-is_part.false);
      priority = part_by told heading _ _ _ _ _ _ _ _ b.priority o.priority t.priority r.priority (c.is_part-2.ensures c.if-not-is_part-2.false);
      title = part_by told heading _ _ _ _ _ _ _ _ b.title o.title t.title r.title (c.is_part-3.ensures c.if-not-is_part-3.false);
      tags = tags_by told heading _ _ _ _ _ _ _ _ b.tags o.tags t.tags r.tags (c.has_right_tags.ensures holds);
    }
