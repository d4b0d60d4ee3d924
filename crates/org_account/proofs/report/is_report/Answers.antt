use Rattle.std.proofs.Common.{◌≡◌, ◌≤◌, ℕ, length, arith}
use Rattle.std.proofs.lemmas.Grind.{common_steps}
use Rattle.org_splice.specs.Lines.{terminated}
use Rattle.org_account.specs.declared.table.Row.{Row}
use Rattle.org_account.proofs.EachRow.{each_more, each_all, report_more, report_end}
use Rattle.org_account.proofs.report.is_report.Goals as goal

pub loop-row-preserved : goal.loop-row-preserved
loop-row-preserved c = record {
  bytes = λ told. c.loop-row.invariant.bytes (report_more c.args.table.now c.loop-row.row-index _ c.loop-row.rest.now c.in-Some.more.now c.loop-row-test.true c.in-Some.ensures.cases.0 c.in-Some.ensures.cases.1 told);
  lines = each_more (λ (k : ℕ) (row : Row). terminated row.told.now ≡ row.told.now) c.args.table.now c.loop-row.row-index _ c.loop-row-test.true (c.is_terminated.ensures.0 c.if-not-is_terminated.false) c.loop-row.invariant.lines;
}

pub returns : goal.returns
returns c =
    let long : length c.args.table.now ≤ c.loop-row.row-index = grind (arith, common_steps) in
    λ yes.
    let empty : length c.loop-row.rest.now ≡ 0 = grind (arith, common_steps) in
    record {
      bytes = c.loop-row.invariant.bytes (report_end c.args.table.now c.loop-row.row-index c.loop-row.rest.now long empty);
      lines = each_all (λ (k : ℕ) (row : Row). terminated row.told.now ≡ row.told.now) c.args.table.now c.loop-row.row-index long c.loop-row.invariant.lines;
    }
