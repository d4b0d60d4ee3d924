use Rattle.std.proofs.Common.{◌≡◌, ◌∙◌, ℕ, ◌<◌, List, Option, Result, Ok, Err, sym, ap, subst, arith}
use Rattle.std.proofs.lemmas.Result.{err_from_is_err_and}
use Rattle.org_outline.specs.declared.paths.PathFault.{PathFault}
use Rattle.org_outline.specs.declared.steps.Step.{Step}
use Rattle.org_outline.specs.States.{Keywords}
use Rattle.org_outline.specs.Tree.{Document, tree, node_count}
use Rattle.org_outline.specs.Paths.{find_path}
use Rattle.org_capture.specs.Capture.{below_found, below_day, date_base}
use Rattle.org_capture.specs.Answers.{AnswersEdit}
use Rattle.org_capture.proofs.Faults.{no_heading, for_some, for_none}
use Rattle.org_capture.proofs.capturing.capture.Goals as goal

pub returns-in-Head : goal.returns-in-Head
returns-in-Head c = λ node entry.
    rw c.in-Head.is (c.below_head.ensures node entry)

pub returns-in_ok-node-in-Path : goal.returns-in_ok-node-in-Path
returns-in_ok-node-in-Path c = λ node entry.
    let states : Keywords = c.args.outline.now.states in
    let d : Document = tree c.args.outline.now.text in
    let found : find_path states d c.as_slice.result.now ≡ Ok c.in_ok-node-in-Path.node = sym c.find.ensures.value ∙ c.in_ok-node-in-Path.was in
    let Found : Result ℕ PathFault → Type 0 = λ r. AnswersEdit (below_found c.args.place node d r) c.args.outline.now.text c.insertion-in-Path.result in
    let Said : List Step → Type 0 = λ path. Found (find_path states d path) in
    rw c.in-Path.is (subst Said c.as_slice.ensures (subst Found (sym found) (c.insertion-in-Path.ensures node entry)))

pub returns-in_ok-base-in-Date : goal.returns-in_ok-base-in-Date
returns-in_ok-base-in-Date c = λ node entry.
    let states : Keywords = c.args.outline.now.states in
    let d : Document = tree c.args.outline.now.text in
    let found : date_base states d c.as_slice-in-Date.result.now ≡ Ok c.in_ok-base-in-Date.base = sym c.date_base.ensures.value ∙ c.in_ok-base-in-Date.was in
    let Found : Result (Option ℕ) PathFault → Type 0 = λ r. AnswersEdit (below_day states c.args.place c.args.moment node d r) c.args.outline.now.text c.dated_insertion.result in
    let Said : List Step → Type 0 = λ path. Found (date_base states d path) in
    rw c.in-Date.is (subst Said c.as_slice-in-Date.ensures (subst Found (sym found) (c.dated_insertion.ensures node entry)))

pub insertion-requires-clause-parent : goal.insertion-requires-clause-parent
insertion-requires-clause-parent c = for_none (λ n. n < node_count (tree c.args.outline.now.text))

pub insertion-requires-clause-entry : goal.insertion-requires-clause-entry
insertion-requires-clause-entry c = c.requires

pub below_head-requires : goal.below_head-requires
below_head-requires c = c.requires

pub returns-in_err-node-in-Path : goal.returns-in_err-node-in-Path
returns-in_err-node-in-Path c = λ node entry.
    let states : Keywords = c.args.outline.now.states in
    let d : Document = tree c.args.outline.now.text in
    let p = err_from_is_err_and c.from_residual.result c.from_residual.ensures.1 in
    let fault : find_path states d c.as_slice.result.now ≡ Err c.in_err-node-in-Path.field-0.0 = sym c.find.ensures.value ∙ c.in_err-node-in-Path.was in
    let says = ap (λ path. below_found c.args.place node d (find_path states d path)) (sym c.as_slice.ensures) ∙ ap (below_found c.args.place node d) fault in
    rw c.in-Path.is (no_heading _ c.args.outline.now.text _ p.0 c.in_err-node-in-Path.field-0.0 p.1 p.2 says)

pub insertion-requires-in-Path-clause-parent : goal.insertion-requires-in-Path-clause-parent
insertion-requires-in-Path-clause-parent c = for_some (λ n. n < node_count (tree c.args.outline.now.text)) c.in_ok-node-in-Path.node c.in_ok-node-in-Path.ensures.within

pub insertion-requires-in-Path-clause-entry : goal.insertion-requires-in-Path-clause-entry
insertion-requires-in-Path-clause-entry c = c.requires

pub returns-in_err-base-in-Date : goal.returns-in_err-base-in-Date
returns-in_err-base-in-Date c = λ node entry.
    let states : Keywords = c.args.outline.now.states in
    let d : Document = tree c.args.outline.now.text in
    let p = err_from_is_err_and c.from_residual-in_err-base-in-Date.result c.from_residual-in_err-base-in-Date.ensures.1 in
    let fault : date_base states d c.as_slice-in-Date.result.now ≡ Err c.in_err-base-in-Date.field-0.0 = sym c.date_base.ensures.value ∙ c.in_err-base-in-Date.was in
    let says = ap (λ path. below_day states c.args.place c.args.moment node d (date_base states d path)) (sym c.as_slice-in-Date.ensures) ∙ ap (below_day states c.args.place c.args.moment node d) fault in
    rw c.in-Date.is (no_heading _ c.args.outline.now.text _ p.0 c.in_err-base-in-Date.field-0.0 p.1 p.2 says)

pub dated_insertion-requires-clause-parent : goal.dated_insertion-requires-clause-parent
dated_insertion-requires-clause-parent c = c.in_ok-base-in-Date.ensures.within

pub dated_insertion-requires-clause-few : goal.dated_insertion-requires-clause-few
dated_insertion-requires-clause-few c = omega arith

pub dated_insertion-requires-clause-entry : goal.dated_insertion-requires-clause-entry
dated_insertion-requires-clause-entry c = c.requires

pub returns-in-Top : goal.returns-in-Top
returns-in-Top c = λ node entry. rw c.in-Top.is (c.insertion.ensures node entry)
