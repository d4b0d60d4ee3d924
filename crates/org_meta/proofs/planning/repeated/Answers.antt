use Rattle.std.proofs.Common.{◌++◌, ◌∷◌, [], ap, ◌∙◌}
use Rattle.std.proofs.lemmas.Result.{err_from_is_err_and}
use Rattle.org_meta.specs.Planning.{PlanningLine}
use Rattle.org_meta.proofs.Replanning.{repeated_bytes, same_fault}
use Rattle.org_meta.proofs.planning.repeated.Goals as goal

pub returns-clause-ok : goal.returns-clause-ok
returns-clause-ok c =
    let out = c.push_all_repeated.new.out.items in
    repeated_bytes c.args.now c.args.planning.now _ _ _ _ (c.deref.ensures.value ∙ ap (λ (p : PlanningLine). p.entries) c.planning.view_is) (c.in_ok-bytes.ensures.items ∙ ap (λ (p : PlanningLine). p.indentation) c.planning.view_is)
    c.in_ok-push_all_repeated.ensures.ok (c.in_ok-push_all.ensures ∙ ap (λ (p : PlanningLine). out ++ (p.tail ++ 10 ∷ [])) c.planning.view_is)

pub returns-in_err-push_all_repeated-clause-err : goal.returns-in_err-push_all_repeated-clause-err
returns-in_err-push_all_repeated-clause-err c =
    let p = err_from_is_err_and c.from_residual-in_err-push_all_repeated.result c.from_residual-in_err-push_all_repeated.ensures.1 in
    let same = c.deref.ensures.value ∙ ap (λ (p : PlanningLine). p.entries) c.planning.view_is in
    rw (p.1, p.2) (same_fault c.args.now _ _ _ same c.in_err-push_all_repeated.ensures.err)
