use Rattle.org_move.proofs.Joins.{lists_more}
use Rattle.org_move.proofs.inherited.first_tags.Goals as goal

pub loop-tags-preserved : goal.loop-tags-preserved
loop-tags-preserved c = lists_more c.loop-tags.found.items _ c.args.all.now c.loop-tags.tags-index _ c.loop-tags.invariant c.loop-tags-test.true c.in_ok-push_tags.ensures
