use Rattle.std.proofs.Common.{◌≡◌, ◌==◌, ◌∷◌, [], Some, None, map, refl, rules, sym, ap, ◌∙◌}
use Rattle.std.proofs.lemmas.Iterator.Consumers.{YieldsList-end, YieldsList-at}
use Rattle.std.proofs.lemmas.Iterator.Splits.{YieldsList-from_slice_split}
use Rattle.std.proofs.lemmas.List.{map-append}
use Rattle.org_serve.specs.Grammar.{path_of, step_of, steps_in}
use Rattle.org_serve.proofs.Paths.{steps_in-push, steps_in-stopped}
use Rattle.org_serve.proofs.field.path.Goals as goal

pub loop-part-preserved : goal.loop-part-preserved
loop-part-preserved c =
    let fields = map-append (λ x. x.now) c.loop-part.yielded (c.in-Some.part ∷ []) in
    rw (fields, c.in_ok-push.ensures.items) (steps_in-push (map (λ x. x.now) c.loop-part.yielded) c.loop-part.steps.items c.in-Some.part.now c.in_ok-step.field-0 c.loop-part.invariant c.in_ok-step.ensures)

pub returns-in_err-step : goal.returns-in_err-step
unfolding path_of
returns-in_err-step c =
    let none : step_of c.in-Some.part.now ≡ None → path_of c.args.field.now ≡ None =
    steps_in-stopped
    (YieldsList-at c.into_iter-part-iterator.ensures.into_iter_gives (YieldsList-from_slice_split _ (λ b. b == 47) c.args.field.now c.split-part-items.ensures.rest c.split-part-items.ensures.done c.split-part-items.ensures.closure (λ x b q called. (refl, search (rules, called)))))
    c.loop-part.yielded _ c.loop-part.yielded_by _ _ c.in-Some.part c.in-Some.is c.next.ensures.steps
    c.loop-part.steps.items c.loop-part.invariant in
    search (rules, none)

pub returns : goal.returns
unfolding path_of
returns c =
    let ended =
    YieldsList-end
    (YieldsList-at c.into_iter-part-iterator.ensures.into_iter_gives (YieldsList-from_slice_split _ (λ b. b == 47) c.args.field.now c.split-part-items.ensures.rest c.split-part-items.ensures.done c.split-part-items.ensures.closure (λ x b q called. (refl, search (rules, called)))))
    c.loop-part.yielded _ c.loop-part.yielded_by _ _ c.in-None.is c.next.ensures.steps in
    ap steps_in (sym ended.0) ∙ c.loop-part.invariant ∙ ap Some (sym c.new.ensures)
