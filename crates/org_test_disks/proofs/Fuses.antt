-- The accounts of a fuse, of those of its disk.
use Rattle.std.proofs.Common.{◌≡◌, ℕ, arith}
use Rattle.std.proofs.lemmas.Grind.{common_steps}
use Rattle.std.specs.Prelude.{Result, Ok, Err}
use Rattle.org_disk.specs.Calls.{AccountsOfCall}
use Rattle.org_test_disks.specs.Fuse.{fuse_failures}
use Rattle.org_disk.specs.declared.disk.DiskFault.{DiskFault}
use Rattle.org_test_disks.specs.declared.fuse.Fuse.{Fuse}

-- a call that was passed on
pub accounts_passed : {D A : Type 0} {truthful : Type 0} {honest : D → Type 0} {failures : D → ℕ} (old mid new : Fuse D) (result : Result A DiskFault) → mid.disk ≡ old.disk → mid.failures ≡ old.failures → new.failures ≡ mid.failures
    → AccountsOfCall truthful honest failures mid.disk new.disk result
    → AccountsOfCall truthful (λ (fuse : Fuse D). honest fuse.disk) (λ (fuse : Fuse D). fuse_failures fuse.failures (failures fuse.disk)) old new result
accounts_passed {honest = honest} {failures = failures} old mid new (Ok x) same kept own call = grind (arith, common_steps)
accounts_passed {honest = honest} {failures = failures} old mid new (Err fault) same kept own call = grind (arith, common_steps)
