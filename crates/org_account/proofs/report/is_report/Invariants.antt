use Rattle.std.proofs.Common.{◌≡◌, ◌<◌, ℕ, Some, drop}
use Rattle.std.specs.Prelude.{slice_get}
use Rattle.org_splice.specs.Lines.{terminated}
use Rattle.org_account.specs.declared.table.Row.{Row}
use Rattle.org_account.specs.Table.{report_of}
use Rattle.org_account.proofs.report.is_report.Given as goal

abbrev pub invariant-loop-row : goal.invariant-loop-row
invariant-loop-row l = record {
  bytes : l.rest ≡ report_of (drop l.row-index l.table) → l.report ≡ report_of l.table;
  lines : (j : ℕ) (row : Row) → j < l.row-index → slice_get l.table j ≡ Some row → terminated row.told.now ≡ row.told.now;
}
