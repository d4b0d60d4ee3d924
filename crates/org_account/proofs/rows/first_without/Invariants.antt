use Rattle.std.proofs.Common.{◌<◌, ℕ, get_or}
use Rattle.org_account.proofs.rows.first_without.Given as goal

abbrev pub invariant-loop-unit : goal.invariant-loop-unit
invariant-loop-unit l = (i : ℕ) → i < l.unit → get_or l.rows i 0 < l.none
