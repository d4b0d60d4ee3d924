use Rattle.std.proofs.Common.{◌≡◌, ◌<◌, ℕ, Some}
use Rattle.std.specs.Prelude.{slice_get}
use Rattle.org_account.specs.declared.table.Row.{Row}
use Rattle.org_account.specs.Account.{IsDeletion}
use Rattle.org_account.proofs.deletions.first_wrong_deletion.Given as goal

abbrev pub invariant-loop-k : goal.invariant-loop-k
invariant-loop-k l = (j : ℕ) (row : Row) → j < l.k → slice_get l.table j ≡ Some row → IsDeletion l.side l.base l.units l.table row
