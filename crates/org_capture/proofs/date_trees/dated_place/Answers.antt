use Rattle.std.proofs.Common.{◌≡◌, ◌∙◌, Some, sym}
use Rattle.std.specs.declared.cmp.Ordering.TheVariants.{Greater}
use Rattle.org_outline.specs.Tree.{Document, tree}
use Rattle.org_capture.specs.Dates.{first_dated}
use Rattle.org_capture.proofs.DateTrees.{dated_before}
use Rattle.org_capture.proofs.date_trees.dated_place.Goals as goal

pub returns-in-Some : goal.returns-in-Some
returns-in-Some c = λ node.
    let d : Document = tree c.args.outline.now.text in
    let found : first_dated c.args.outline.now.states d c.args.parent.now c.args.kind c.args.key.now Greater ≡ Some c.in-Some.later = sym c.first_dated.ensures.value ∙ c.in-Some.is in
    dated_before c.args.outline.now.states c.args.outline.now.text c.args.parent.now c.args.kind c.args.key.now c.in-Some.later c.subtree-at.result.start node
    c.text.ensures.terminated c.in-Some.ensures.within found c.subtree-at.ensures.start
