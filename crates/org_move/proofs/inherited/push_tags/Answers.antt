use Rattle.std.proofs.Common.{refl, rules}
use Rattle.std.proofs.lemmas.Iterator.Consumers.{YieldsList-end, YieldsList-at}
use Rattle.std.proofs.lemmas.Iterator.Splits.{YieldsList-from_slice_split}
use Rattle.org_move.specs.Inherited.{is_colon}
use Rattle.org_move.proofs.Joins.{tags_more, tags_end}
use Rattle.org_move.proofs.inherited.push_tags.Goals as goal

pub loop-tag-preserved : goal.loop-tag-preserved
loop-tag-preserved c = tags_more c.args.found.now.items c.loop-tag.found.items _ c.loop-tag.yielded c.in-Some.tag c.loop-tag.invariant c.in_ok-push_tag.ensures

pub returns : goal.returns
returns c =
    let ended =
    YieldsList-end
    (YieldsList-at c.into_iter-tag-iterator.ensures.into_iter_gives (YieldsList-from_slice_split _ is_colon c.args.tags.now c.split-tag-items.ensures.rest c.split-tag-items.ensures.done c.split-tag-items.ensures.closure (λ x b q called. (refl, search (rules, called)))))
    c.loop-tag.yielded _ c.loop-tag.yielded_by _ _ c.in-None.is c.next.ensures.steps in
    tags_end c.args.found.now.items _ c.loop-tag.yielded c.args.tags.now c.loop-tag.invariant ended.0
