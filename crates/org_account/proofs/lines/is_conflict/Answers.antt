use Rattle.std.proofs.Common.{◌++◌, [], ◌∷◌}
use Rattle.std.specs.Prelude.{codes}
use Rattle.org_account.proofs.EachLine.{copies_rest, copies_found, joined_front}
use Rattle.org_account.proofs.lines.is_conflict.Goals as goal

pub returns-in-Some : goal.returns-in-Some
returns-in-Some c = λ yes.
    let fields = c.in-Some.field-0.now in (
      fields,
      copies_found (codes "conflict" ++ 9 ∷ fields) c.loop-left.left.now c.first_line.result.0.now c.first_line.result.1.now _ c.first_line.ensures.lines
          (joined_front c.first_line.result.0.now (codes "conflict" ++ 9 ∷ []) fields c.in-Some.ensures.cases.0 c.in-Some.ensures.cases.1) (c.loop-left.invariant _),
    )

pub loop-left-preserved : goal.loop-left-preserved
loop-left-preserved c = λ line. copies_rest line c.loop-left.left.now _ c.first_line.result.1.now _ c.first_line.ensures.lines (c.loop-left.invariant line)
