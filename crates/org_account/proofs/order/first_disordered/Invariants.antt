use Rattle.std.proofs.Common.{◌≡◌, ◌<◌, ℕ, Some}
use Rattle.std.specs.Prelude.{slice_get}
use Rattle.org_account.specs.declared.table.Row.{Row}
use Rattle.org_account.specs.Account.{AreOrdered}
use Rattle.org_account.proofs.order.first_disordered.Given as goal

abbrev pub invariant-loop-k : goal.invariant-loop-k
invariant-loop-k l = (j : ℕ) (row : Row) → j < l.k → slice_get l.table j ≡ Some row → AreOrdered l.table l.of row.told.now j
