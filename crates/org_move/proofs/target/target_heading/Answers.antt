use Rattle.org_outline.specs.Tree.{tree}
use Rattle.org_move.proofs.Targets.{walk_found, walk_other, test_is}
use Rattle.org_move.proofs.target.target_heading.Goals as goal
use Rattle.org_move.proofs.target.target_heading.Goals.{then-is_at+else-is_some, else-is_at}

pub loop-index-preserved : goal.loop-index-preserved
loop-index-preserved c =
    let states = c.args.outline.now.states in
    let to = c.args.to.now in
    let d = tree c.args.outline.now.text in
    elim c.if-is_at.branch [
      | then-is_at+else-is_some w ↦ rw w.found-is
          (walk_found states to d _ _ _ _ _ _ c.loop-index.invariant c.loop-index-test.true c.count-index-end.ensures c.node-node.ensures c.is_at.ensures w.if-is_at.true w.is_some.ensures w.if-is_some.false)
      | else-is_at w ↦ rw w.found-is
          (walk_other states to d _ _ _ _ c.loop-index.invariant c.loop-index-test.true c.count-index-end.ensures (test_is states to d _ _ _ c.node-node.ensures c.is_at.ensures) w.if-is_at.false)
    ]
