use Rattle.std.proofs.Common.{ℕ, List, length, ap, subst, arith}
use Rattle.org_outline.specs.States.{Keywords}
use Rattle.org_state.specs.Edits.{moved, RewritesRest}
use Rattle.org_state.specs.Keyword.{with_keyword}
use Rattle.org_state.proofs.Steps.{section_bounds, rest_before}
use Rattle.org_state.proofs.own.OwnLines.keyword_edit.Goals as goal

pub prove-unreachable-requires : goal.prove-unreachable-requires
prove-unreachable-requires c =
    let b = section_bounds c.args.self.now.outline.now.text c.args.self.now.node c.section.result c.text-end.ensures.terminated c.args.self.now.within c.section.ensures in
    omega (arith, b.0, b.1, c.section.ensures.start, c.if-prove.true, ap length c.text-end.ensures.value)

pub overflow_add-result : goal.overflow_add-result
overflow_add-result c = omega (arith, c.in_ok-edit.ensures.within)

pub overflow_sub-start : goal.overflow_sub-start
overflow_sub-start c = let b = rest_before c.args.self.now.outline.now.text c.args.self.now.node _ c.rest-rest.result.now c.section.ensures c.rest-rest.ensures in b.some

pub overflow_sub-start-2 : goal.overflow_sub-start-2
overflow_sub-start-2 c = let b = rest_before c.args.self.now.outline.now.text c.args.self.now.node _ c.rest-rest.result.now c.section.ensures c.rest-rest.ensures in b.room

pub returns-clause-edits : goal.returns-clause-edits
returns-clause-edits c =
    let edit = c.in_ok-edit.edit in
    let b = rest_before c.args.self.now.outline.now.text c.args.self.now.node _ c.rest-rest.result.now c.section.ensures c.rest-rest.ensures in
    record {
      own = edit;
      is = ap (λ (n : ℕ). moved n edit) b.start;
      gives =
          subst (λ (r : List ℕ). RewritesRest edit r (with_keyword c.args.self.now.outline.now.states c.args.word.now r)) c.rest-rest.ensures
          (subst (λ (k : Keywords). RewritesRest edit c.rest-rest.result.now (with_keyword k c.args.word.now c.rest-rest.result.now)) c.states.ensures.value c.in_ok-edit.ensures);
    }
