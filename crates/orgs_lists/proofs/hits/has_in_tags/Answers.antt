use Rattle.std.proofs.Common.{refl, rules, sym, ◌∙◌}
use Rattle.std.proofs.lemmas.Iterator.Consumers.{YieldsList-at}
use Rattle.std.proofs.lemmas.Iterator.Splits.{YieldsList-from_slice_split}
use Rattle.org_move.specs.Inherited.{is_colon}
use Rattle.orgs_lists.specs.Hits.{has_text}
use Rattle.orgs_lists.proofs.Words.{word_found, word_passed, words_end}
use Rattle.orgs_lists.proofs.hits.has_in_tags.Goals as goal

pub loop-tag-preserved : goal.loop-tag-preserved
loop-tag-preserved c = word_passed (has_text c.args.part.now) c.loop-tag.yielded c.in-Some.tag c.loop-tag.invariant (sym c.in_ok-is_tag_with.ensures ∙ c.if-branch.false)

pub returns-then-branch : goal.returns-then-branch
returns-then-branch c =
    sym (word_found
    (YieldsList-at c.into_iter-tag-iterator.ensures.into_iter_gives (YieldsList-from_slice_split _ is_colon c.args.tags.now c.split-tag-items.ensures.rest c.split-tag-items.ensures.done c.split-tag-items.ensures.closure (λ x b q called. (refl, search (rules, called)))))
    c.loop-tag.yielded _ c.loop-tag.yielded_by _ _ c.in-Some.tag c.in-Some.is c.next.ensures.steps (has_text c.args.part.now) (sym c.in_ok-is_tag_with.ensures ∙ c.if-branch.true))

pub returns : goal.returns
returns c =
    sym (words_end
    (YieldsList-at c.into_iter-tag-iterator.ensures.into_iter_gives (YieldsList-from_slice_split _ is_colon c.args.tags.now c.split-tag-items.ensures.rest c.split-tag-items.ensures.done c.split-tag-items.ensures.closure (λ x b q called. (refl, search (rules, called)))))
    c.loop-tag.yielded _ c.loop-tag.yielded_by _ _ c.in-None.is c.next.ensures.steps (has_text c.args.part.now) c.loop-tag.invariant)
