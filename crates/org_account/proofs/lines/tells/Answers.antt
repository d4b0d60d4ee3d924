use Rattle.std.proofs.Common.{◌++◌}
use Rattle.org_account.proofs.EachLine.{copies_rest, copies_found}
use Rattle.org_account.proofs.lines.tells.Goals as goal

pub returns-then-ends_with_both : goal.returns-then-ends_with_both
returns-then-ends_with_both c = λ yes.
    let joined = c.ends_with_both.ensures c.if-ends_with_both.true in
    (joined.0, copies_found (joined.0 ++ (c.args.front.now ++ c.args.back.now)) c.loop-left.left.now _ c.first_line.result.1.now _ c.first_line.ensures.lines joined.1 (c.loop-left.invariant joined.0))

pub loop-left-preserved : goal.loop-left-preserved
loop-left-preserved c = λ fields. copies_rest (fields ++ (c.args.front.now ++ c.args.back.now)) c.loop-left.left.now _ c.first_line.result.1.now _ c.first_line.ensures.lines (c.loop-left.invariant fields)
