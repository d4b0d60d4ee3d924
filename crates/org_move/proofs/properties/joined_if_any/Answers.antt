use Rattle.std.proofs.Common.{sym, ◌∙◌}
use Rattle.org_move.proofs.Joins.{joined_more, joined_all, some_joined}
use Rattle.org_move.proofs.properties.joined_if_any.Goals as goal

pub loop-text-preserved : goal.loop-text-preserved
loop-text-preserved c =
    joined_more c.args.byte c.args.texts.now c.loop-text.text-index _ _ _ _ c.loop-text.invariant c.loop-text-test.true c.in_ok-extend_from_slice.ensures.items c.in_ok-push.ensures.items

pub returns : goal.returns
returns c =
    some_joined _ _ _ (sym c.is_empty.ensures ∙ c.if-is_empty.false) (joined_all _ _ _ _ _ _ c.loop-text.invariant c.loop-text-test.false (sym c.loop-text.made.ok.0) c.pop.ensures.rest)
