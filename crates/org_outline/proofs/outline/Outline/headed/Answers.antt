use Rattle.std.proofs.Common.{◌∙◌, ◌<◌, ℕ, List, sym, ap, subst, refl, arith}
use Rattle.org_outline.specs.Outline.{node_headings}
use Rattle.org_outline.specs.Paths.{find_headed, the_one, titled_nodes, to_some}
use Rattle.org_outline.specs.Tree.{node_count, nodes_of, tree}
use Rattle.org_outline.proofs.Found.{Holds, all_headed_in, headed_in}
use Rattle.org_outline.proofs.Nodes.{headings_many}
use Rattle.org_outline.proofs.PathWalk.{tests, headed_met, headed_answered, headed_other, headed_end}
use Rattle.org_outline.proofs.Passing.{head_next}
use Rattle.org_outline.proofs.outline.Outline.headed.Goals as goal
use Rattle.org_outline.proofs.outline.Outline.headed.Goals.{then-reads_as+in_default, else-reads_as}

pub loop-index-init : goal.loop-index-init
loop-index-init c =
    let all = nodes_of c.args.self.now.text in
    let asked = c.of-choice.ensures (titled_nodes c.args.self.now.states c.as_slice-title.result.now 0 all)
    ∙ ap (λ (title : List ℕ). the_one c.args.step.now.number (titled_nodes c.args.self.now.states title 0 all)) c.as_slice-title.ensures in
    head_next _ _ _ _ _ _ _ (record { answer = asked }) c.next_candidate-index.ensures.from (omega (arith, c.next_candidate-index.ensures.within, c.count-count.ensures)) c.next_candidate-index.ensures.passed

pub loop-index-preserved : goal.loop-index-preserved
loop-index-preserved c =
    let i = c.loop-index.invariant in
    let lt = c.loop-index-test.true in
    let next = c.next_candidate-index-in-loop-index.ensures in
    head_next c.args.self.now.states c.args.self.now.text c.as_slice-title.result.now (find_headed c.args.self.now.states (tree c.args.self.now.text) c.args.step.now) _ _ c.if-reads_as.choice (elim c.if-reads_as.branch [
      | then-reads_as+in_default w ↦ rw w.choice-is
          (headed_met _ _ _ _ _ _ _ (tests _ c.args.self.now.text _ _ _ _ _ lt c.count-count.ensures c.reads_as.ensures w.if-reads_as.true) i w.in_default.ensures)
      | else-reads_as w ↦ rw w.choice-is
          (headed_other _ _ _ _ _ _ (tests _ c.args.self.now.text _ _ _ _ _ lt c.count-count.ensures c.reads_as.ensures w.if-reads_as.false) i)
    ]) next.from (omega (arith, next.within, c.count-count.ensures)) next.passed

pub returns-in-Some-clause-within : goal.returns-in-Some-clause-within
returns-in-Some-clause-within c =
    let known = headed_answered _ c.args.self.now.text _ _ _ _ _ (tests _ c.args.self.now.text _ _ _ _ _ c.loop-index-test.true c.count-count.ensures c.reads_as.ensures c.if-reads_as.true) c.loop-index.invariant c.in-Some.ensures in
    headed_in c.args.self.now.states (tree c.args.self.now.text) c.args.step.now _ (sym known ∙ ap to_some c.in_ok-answer.was)

pub returns-clause-within : goal.returns-clause-within
returns-clause-within c =
    let known = headed_end _ c.args.self.now.text _ _ _ (node_headings c.args.self.now.text) _ (omega (arith, c.loop-index-test.false, c.count-count.ensures, headings_many c.args.self.now.text)) refl c.loop-index.invariant in
    subst (Holds (λ node. node < node_count (tree c.args.self.now.text))) (sym (c.end.ensures ∙ known)) (all_headed_in c.args.self.now.states (tree c.args.self.now.text) c.args.step.now)
