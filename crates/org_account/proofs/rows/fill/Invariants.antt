use Rattle.std.proofs.Common.{◌≡◌, length}
use Rattle.org_account.specs.Table.{AreFilled}
use Rattle.org_account.proofs.rows.fill.Given as goal

abbrev pub invariant-loop-k : goal.invariant-loop-k
invariant-loop-k l = record {
  filled : AreFilled l.folder l.table (length l.initial.rows.items) l.k l.rows.items;
  long : length l.rows.items ≡ length l.initial.rows.items;
}
