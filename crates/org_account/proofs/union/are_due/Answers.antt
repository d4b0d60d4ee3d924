use Rattle.std.proofs.Common.{◌≡◌, length, arith}
use Rattle.std.proofs.lemmas.Grind.{common_steps}
use Rattle.org_account.specs.Text.{IsDueLine}
use Rattle.org_account.proofs.EachLine.{each_none, each_more}
use Rattle.org_account.proofs.union.are_due.Goals as goal

pub loop-left-preserved : goal.loop-left-preserved
loop-left-preserved c = λ all. c.loop-left.invariant (each_more (IsDueLine c.args.texts.now) c.loop-left.left.now _ c.first_line.result.1.now c.first_line.ensures.lines (c.is_due_line.ensures c.if-not-is_due_line.false) all)

pub returns : goal.returns
returns c =
    let empty : length c.loop-left.left.now ≡ 0 = grind (arith, common_steps) in
    λ yes. c.loop-left.invariant (each_none (IsDueLine c.args.texts.now) c.loop-left.left.now empty)
