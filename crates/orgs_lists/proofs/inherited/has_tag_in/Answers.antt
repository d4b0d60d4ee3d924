use Rattle.std.proofs.Common.{refl, rules, sym, ◌∙◌}
use Rattle.std.specs.Str.{bytes_eq}
use Rattle.std.proofs.lemmas.Iterator.Consumers.{YieldsList-at}
use Rattle.std.proofs.lemmas.Iterator.Splits.{YieldsList-from_slice_split}
use Rattle.org_move.specs.Inherited.{is_colon}
use Rattle.orgs_lists.proofs.Words.{word_found, word_passed, words_end}
use Rattle.orgs_lists.proofs.inherited.has_tag_in.Goals as goal

pub loop-word-preserved : goal.loop-word-preserved
loop-word-preserved c = word_passed (bytes_eq c.args.tag.now) c.loop-word.yielded c.in-Some.word c.loop-word.invariant (sym c.is_tag.ensures ∙ c.if-is_tag.false)

pub returns-then-is_tag : goal.returns-then-is_tag
returns-then-is_tag c =
    sym (word_found
    (YieldsList-at c.into_iter-word-iterator.ensures.into_iter_gives (YieldsList-from_slice_split _ is_colon c.args.tags.now c.split-word-items.ensures.rest c.split-word-items.ensures.done c.split-word-items.ensures.closure (λ x b q called. (refl, search (rules, called)))))
    c.loop-word.yielded _ c.loop-word.yielded_by _ _ c.in-Some.word c.in-Some.is c.next.ensures.steps (bytes_eq c.args.tag.now) (sym c.is_tag.ensures ∙ c.if-is_tag.true))

pub returns : goal.returns
returns c =
    sym (words_end
    (YieldsList-at c.into_iter-word-iterator.ensures.into_iter_gives (YieldsList-from_slice_split _ is_colon c.args.tags.now c.split-word-items.ensures.rest c.split-word-items.ensures.done c.split-word-items.ensures.closure (λ x b q called. (refl, search (rules, called)))))
    c.loop-word.yielded _ c.loop-word.yielded_by _ _ c.in-None.is c.next.ensures.steps (bytes_eq c.args.tag.now) c.loop-word.invariant)
