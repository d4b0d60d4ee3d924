use Rattle.std.proofs.Common.{◌≤◌, ℕ, length, arith}
use Rattle.std.proofs.lemmas.Grind.{common_steps}
use Rattle.org_account.specs.declared.table.Row.{Row}
use Rattle.org_account.specs.Account.{RowIsRight}
use Rattle.org_account.proofs.EachRow.{each_more, each_all}
use Rattle.org_account.proofs.checking.first_wrong.Goals as goal

pub loop-k-preserved : goal.loop-k-preserved
loop-k-preserved c =
    each_more (λ (k : ℕ) (row : Row). RowIsRight c.args.of.now row) c.args.table.now c.loop-k.k _ c.loop-k-test.true (c.in_ok-row_is_right.ensures c.if-not-branch.false) c.loop-k.invariant

pub returns-clause-none : goal.returns-clause-none
returns-clause-none c =
    let long : length c.args.table.now ≤ c.loop-k.k = grind (arith, common_steps) in
    each_all (λ (k : ℕ) (row : Row). RowIsRight c.args.of.now row) c.args.table.now c.loop-k.k long c.loop-k.invariant
