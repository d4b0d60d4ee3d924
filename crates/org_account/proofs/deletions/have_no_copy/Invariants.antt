use Rattle.std.proofs.Common.{◌≡◌, ◌<◌, ℕ, Some}
use Rattle.std.specs.Prelude.{slice_get}
use Rattle.org_account.specs.declared.table.Row.{Row}
use Rattle.org_account.specs.Account.{IsNoCopy}
use Rattle.org_account.proofs.deletions.have_no_copy.Given as goal

abbrev pub invariant-loop-row : goal.invariant-loop-row
invariant-loop-row l = (j : ℕ) (row : Row) → j < l.row-index → slice_get l.table j ≡ Some row → IsNoCopy l.side l.units l.gone row
