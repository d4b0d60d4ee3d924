use Rattle.std.proofs.Common.{◌∙◌, ℕ, List, sym, ap, refl}
use Rattle.std.proofs.Math.Nat.{not-le_of_lt}
use Rattle.std.proofs.lemmas.Result.{err_from_is_err_and}
use Rattle.org_outline.specs.Paths.{the_one, titled_children}
use Rattle.org_outline.specs.Tree.{tree}
use Rattle.org_outline.proofs.Found.{of_step}
use Rattle.org_outline.proofs.PathWalk.{child_start, child_tests, pass_start, pass_on, pass_met, pass_answered, found_some, found_ok, found_err}
use Rattle.org_outline.proofs.Passing.{ends_deeper, no_heading, in_range, deep_slice, search_start, search_on, search_deep, search_end}
use Rattle.org_outline.proofs.outline.Outline.child.Goals as goal
use Rattle.org_outline.proofs.outline.Outline.child.Goals.{then-headings-index+then-reads_as+in_default, else-headings-index, else-headings-index-via-then-headings-index+else-reads_as, else-headings-index-via-else-headings-index}

pub loop-index-init : goal.loop-index-init
loop-index-init c =
    let states = c.args.self.now.states in
    let asked = c.of-choice.ensures (titled_children states (tree c.args.self.now.text) c.args.parent c.as_slice-title.result.now)
    ∙ ap (λ (title : List ℕ). the_one c.args.step.now.number (titled_children states (tree c.args.self.now.text) c.args.parent title)) c.as_slice-title.ensures in
    search_start _ _ _ _ _ _ _ _ _ c.headings-headings.result.now
    (pass_start _ _ _ _ _ _ _ _ (child_start _ _ _ _ _ _ _ c.requires c.below-first.ensures.first asked) c.text-deepest.ensures.terminated c.text-deepest.ensures.value c.below-first.ensures.level)
    (ends_deeper c.args.self.now.text _ _ _ _ c.headings-headings.ensures.value c.end_of_deeper-end.ensures.value)

pub returns-in-Some-clause-value : goal.returns-in-Some-clause-value
returns-in-Some-clause-value c =
    let is = c.headings-headings.ensures.value in
    let ends = ends_deeper c.args.self.now.text _ _ _ _ is c.end_of_deeper-end.ensures.value in
    let lt = in_range c.args.self.now.text _ _ _ is c.loop-index-test.true c.end_of_deeper-end.ensures.within in
    found_some _ _
    (pass_answered _ _ _ _ _ _ _ _ _ _ _ c.loop-index.invariant.pass (child_tests _ c.args.self.now.text _ _ _ _ _ is lt c.reads_as.ensures c.if-reads_as.true)
    is lt (search_deep _ _ _ _ _ _ _ _ _ _ _ _ c.loop-index.invariant ends c.loop-index-test.true) c.if-headings-index.true c.in-Some.ensures)

pub returns-in-Some-clause-within : goal.returns-in-Some-clause-within
returns-in-Some-clause-within c =
    let is = c.headings-headings.ensures.value in
    let ends = ends_deeper c.args.self.now.text _ _ _ _ is c.end_of_deeper-end.ensures.value in
    let lt = in_range c.args.self.now.text _ _ _ is c.loop-index-test.true c.end_of_deeper-end.ensures.within in
    of_step c.args.self.now.states (tree c.args.self.now.text) c.args.parent c.args.step.now c.requires c.in-Some.answer
    (found_some _ _
    (pass_answered _ _ _ _ _ _ _ _ _ _ _ c.loop-index.invariant.pass (child_tests _ c.args.self.now.text _ _ _ _ _ is lt c.reads_as.ensures c.if-reads_as.true)
    is lt (search_deep _ _ _ _ _ _ _ _ _ _ _ _ c.loop-index.invariant ends c.loop-index-test.true) c.if-headings-index.true c.in-Some.ensures))

pub lowest_level-deepest-requires : goal.lowest_level-deepest-requires
lowest_level-deepest-requires c =
    deep_slice _ _ _ _ _ _ (ends_deeper c.args.self.now.text _ _ _ _ c.headings-headings.ensures.value c.end_of_deeper-end.ensures.value) c.loop-index.invariant.from c.next_candidate-next.ensures.within

pub loop-index-preserved : goal.loop-index-preserved
loop-index-preserved c =
    let is = c.headings-headings.ensures.value in
    let i = c.loop-index.invariant in
    let ends = ends_deeper c.args.self.now.text _ _ _ _ is c.end_of_deeper-end.ensures.value in
    let lt = in_range c.args.self.now.text _ _ _ is c.loop-index-test.true c.end_of_deeper-end.ensures.within in
    let deep = search_deep _ _ _ _ _ _ _ _ _ _ _ _ i ends c.loop-index-test.true in
    search_on c.args.self.now.states c.args.self.now.text c.as_slice-title.result.now (the_one c.args.step.now.number (titled_children c.args.self.now.states (tree c.args.self.now.text) c.args.parent c.args.step.now.title)) c.below-first.result.1 _ _ c.loop-index.deepest c.loop-index.index _ _ c.if-headings-index.choice c.headings-headings.result.now no_heading _ i is ends c.end_of_deeper-end.ensures.within (elim c.if-headings-index.branch [
      | then-headings-index+then-reads_as+in_default w ↦ rw w.choice-is
          (pass_met _ _ _ _ _ _ _ _ _ _ _ _ i.pass (child_tests _ c.args.self.now.text _ _ _ _ _ is lt w.reads_as.ensures w.if-reads_as.true)
          is lt deep w.if-headings-index.true w.in_default.ensures refl)
      | else-headings-index w ↦ rw w.choice-is
          (pass_on _ _ _ _ _ _ _ _ _ _ _ i.pass (λ le. elim w.else-headings-index.branch [
            | else-headings-index-via-then-headings-index+else-reads_as v ↦ child_tests _ c.args.self.now.text _ _ _ _ _ is lt v.reads_as.ensures v.if-reads_as.false
            | else-headings-index-via-else-headings-index v ↦ absurd (not-le_of_lt v.if-headings-index.false le)
          ]) is lt deep refl)
    ]) c.next_candidate-next.ensures.from c.next_candidate-next.ensures.within c.next_candidate-next.ensures.passed c.lowest_level-deepest.ensures

pub returns-in_err-end-clause-value : goal.returns-in_err-end-clause-value
returns-in_err-end-clause-value c =
    let is = c.headings-headings.ensures.value in
    let p = err_from_is_err_and c.from_residual.result c.from_residual.ensures.1 in
    let known = search_end _ _ _ _ _ _ _ _ _ _ _ c.loop-index.invariant is (ends_deeper c.args.self.now.text _ _ _ _ is c.end_of_deeper-end.ensures.value) c.below-first.ensures.within c.loop-index-test.false in
    rw (p.1, p.2) (found_err _ _ (sym c.in_err-end.was ∙ c.end.ensures ∙ known))

pub returns-clause-value : goal.returns-clause-value
returns-clause-value c =
    let is = c.headings-headings.ensures.value in
    let known = search_end _ _ _ _ _ _ _ _ _ _ _ c.loop-index.invariant is (ends_deeper c.args.self.now.text _ _ _ _ is c.end_of_deeper-end.ensures.value) c.below-first.ensures.within c.loop-index-test.false in
    found_ok _ _ _ (sym c.in_ok-end.was ∙ c.end.ensures ∙ known) c.ok_or.ensures.value

pub returns-clause-within : goal.returns-clause-within
returns-clause-within c =
    let is = c.headings-headings.ensures.value in
    let known = search_end _ _ _ _ _ _ _ _ _ _ _ c.loop-index.invariant is (ends_deeper c.args.self.now.text _ _ _ _ is c.end_of_deeper-end.ensures.value) c.below-first.ensures.within c.loop-index-test.false in
    of_step c.args.self.now.states (tree c.args.self.now.text) c.args.parent c.args.step.now c.requires c.ok_or.result (found_ok _ _ _ (sym c.in_ok-end.was ∙ c.end.ensures ∙ known) c.ok_or.ensures.value)
