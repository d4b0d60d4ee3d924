use Rattle.std.proofs.Common.{◌≡◌, List, ℕ, ap, ◌∙◌}
use Rattle.std.specs.Prelude.{Vec}
use Rattle.std.specs.Global.{Global}
use Rattle.std.proofs.lemmas.Result.{IfOk-weaker}
use Rattle.org_outline.specs.Tree.{Node, node_at, print_node, tree}
use Rattle.org_move.specs.Archive.{filled}
use Rattle.org_move.proofs.subtree.archived_lines.Goals as goal

pub filled-requires-clause-node : goal.filled-requires-clause-node
filled-requires-clause-node c = rw c.deref.ensures.value c.in_ok-subtree.ensures.printed

pub returns-clause-lines : goal.returns-clause-lines
returns-clause-lines c =
    let to = c.args.to.now in
    let root = ap (λ (t : List ℕ). (node_at (tree t) 0).node) c.deref.ensures.value ∙ c.in_ok-subtree.ensures.root in
    IfOk-weaker c.filled.result (λ (made : Vec ℕ Global). made.items ≡ print_node (filled to c.args.above (node_at (tree c.deref.result.now) 0).node)) _
    (λ made is. is ∙ ap (λ (node : Node). print_node (filled to c.args.above node)) root)
    c.filled.ensures

pub returns-clause-terminated : goal.returns-clause-terminated
returns-clause-terminated c = IfOk-weaker c.filled.result _ _ (λ made is. c.in_ok-subtree.ensures.terminated) c.filled.ensures
