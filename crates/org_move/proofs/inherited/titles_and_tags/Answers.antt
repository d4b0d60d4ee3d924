use Rattle.org_move.proofs.Above.{climb_next, climb_start}
use Rattle.org_move.proofs.inherited.titles_and_tags.Goals as goal

pub loop-next-init : goal.loop-next-init
loop-next-init c = record {
  titles = climb_start _ _ _ _ _ c.requires c.parent-next.ensures.value c.parent-next.ensures.within c.new-titles.ensures.items;
  tags = climb_start _ _ _ _ _ c.requires c.parent-next.ensures.value c.parent-next.ensures.within c.new-tags.ensures.items;
}

pub loop-next-preserved : goal.loop-next-preserved
loop-next-preserved c = record {
  titles = climb_next _ _ _ _ _ _ _ _ _ c.loop-next.invariant.titles c.in-Some.is c.parts-parts.ensures.title c.in_ok-push.ensures.items c.parent-next-in-Some.ensures.value c.parent-next-in-Some.ensures.within;
  tags = climb_next _ _ _ _ _ _ _ _ _ c.loop-next.invariant.tags c.in-Some.is c.parts-parts.ensures.tags c.in_ok-push-2.ensures.items c.parent-next-in-Some.ensures.value c.parent-next-in-Some.ensures.within;
}
