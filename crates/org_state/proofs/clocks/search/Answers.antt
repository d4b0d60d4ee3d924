use Rattle.std.proofs.Common.{◌≡◌, ◌+◌, ◌-◌, ℕ, Some, sym, ap, subst, ◌∙◌, arith, length}
use Rattle.std.specs.Prelude.{is_some}
use Rattle.org_outline.specs.Tree.{tree}
use Rattle.org_splice.specs.Searched.{IsFrontWithout, IsSearched}
use Rattle.org_splice.specs.declared.searched.Searched.{Searched}
use Rattle.org_state.specs.Clock.{has_clock, running_in}
use Rattle.org_state.proofs.Known.{before_place, behind_place, first_running, found_front, no_clock}
use Rattle.org_state.proofs.clocks.search.Goals as goal

pub running_among-requires-clause-before : goal.running_among-requires-clause-before
running_among-requires-clause-before c =
    let t = c.args.outline.now.text in
    let known = subst (λ (s : Searched). IsSearched has_clock s t) c.in-Ends.is c.requires in
    let n = c.count_before.result in
    before_place t c.in-Ends.front n c.saturating_sub-first.result c.text.ensures.terminated known.0 c.count_before.ensures.count c.count_before.ensures.within c.saturating_sub-first.ensures

pub running_among-requires-clause-behind : goal.running_among-requires-clause-behind
running_among-requires-clause-behind c =
    let t = c.args.outline.now.text in
    let known = subst (λ (s : Searched). IsSearched has_clock s t) c.in-Ends.is c.requires in
    behind_place t c.in-Ends.back c.saturating_sub.result c.count_before-last.result c.text.ensures.terminated known.1
    (c.saturating_sub.ensures ∙ (let long : length c.text.result.now + 1 - c.in-Ends.back ≡ length t + 1 - c.in-Ends.back = omega (arith, ap length c.text.ensures.value) in long)) c.count_before-last.ensures.count

pub returns-in-Some-clause-searched : goal.returns-in-Some-clause-searched
returns-in-Some-clause-searched c =
    let t = c.args.outline.now.text in
    let known = subst (λ (s : Searched). IsSearched has_clock s t) c.in-Ends.is c.requires in
    let found : running_in (tree t) ≡ Some c.in-Some.running = sym c.running_among.ensures ∙ c.in-Some.is in
    (subst (λ (n : ℕ). IsFrontWithout has_clock n t) (sym c.start-front.ensures) (found_front t c.in-Some.running.heading c.text.ensures.terminated (first_running (tree t) c.in-Some.running found)), known.1)

pub returns-in-Nowhere-clause-running : goal.returns-in-Nowhere-clause-running
returns-in-Nowhere-clause-running c =
    let t = c.args.outline.now.text in
    let known = subst (λ (s : Searched). IsSearched has_clock s t) c.in-Nowhere.is c.requires in
    sym (no_clock t known)

pub returns-in-Nowhere-clause-searched : goal.returns-in-Nowhere-clause-searched
returns-in-Nowhere-clause-searched c =
    let t = c.args.outline.now.text in
    subst (λ (s : Searched). IsSearched has_clock s t) c.in-Nowhere.is c.requires

pub returns-in-None-clause-searched : goal.returns-in-None-clause-searched
returns-in-None-clause-searched c = ap is_some (sym c.running_among.ensures ∙ c.in-None.is)
