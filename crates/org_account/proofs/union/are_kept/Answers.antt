use Rattle.std.proofs.Common.{◌≡◌, length, arith}
use Rattle.std.proofs.lemmas.Grind.{common_steps}
use Rattle.org_account.specs.Text.{IsKeptLine}
use Rattle.org_account.proofs.EachLine.{each_none, each_more}
use Rattle.org_account.proofs.union.are_kept.Goals as goal

pub loop-left-preserved : goal.loop-left-preserved
loop-left-preserved c = λ all. c.loop-left.invariant (each_more (IsKeptLine c.args.texts.now) c.loop-left.left.now _ c.first_line.result.1.now c.first_line.ensures.lines (c.is_kept_line.ensures c.if-not-is_kept_line.false) all)

pub returns : goal.returns
returns c =
    let empty : length c.loop-left.left.now ≡ 0 = grind (arith, common_steps) in
    λ yes. c.loop-left.invariant (each_none (IsKeptLine c.args.texts.now) c.loop-left.left.now empty)
