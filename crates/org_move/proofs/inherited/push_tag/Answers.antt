use Rattle.std.proofs.Common.{sym, ◌∙◌}
use Rattle.org_move.proofs.Joins.{tag_empty, tag_passed, tag_pushed}
use Rattle.org_move.proofs.inherited.push_tag.Goals as goal
use Rattle.org_move.proofs.inherited.push_tag.Goals.{then-is_empty-via-then-is_empty, then-is_empty-via-else-is_empty+then-contains}

pub returns-then-is_empty : goal.returns-then-is_empty
returns-then-is_empty c =
    elim c.then-is_empty.branch [
      | then-is_empty-via-then-is_empty w ↦ tag_empty _ c.args.tag.now (sym c.is_empty.ensures ∙ w.if-is_empty.true)
      | then-is_empty-via-else-is_empty+then-contains w ↦ tag_passed c.args.found.now.items _ c.args.tag.now _ w.deref.ensures.value w.contains.ensures.value w.if-contains.true
    ]

pub returns : goal.returns
returns c =
    tag_pushed c.args.found.now.items _ c.push.new.self.items c.args.tag _ (sym c.is_empty.ensures ∙ c.if-is_empty.false) c.deref.ensures.value c.contains.ensures.value c.if-contains.false c.in_ok-push.ensures.items
