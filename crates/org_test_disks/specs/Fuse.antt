-- A disk whose calls fail from some call on.
use Rattle.std.specs.Prelude.{◌≡◌, ℕ, ◌+◌, ◌-◌, ◌^◌, ◌<◌, min, Result, IsErr}
use Rattle.org_disk.specs.Calls.{AccountsOfCall}
use Rattle.org_disk.specs.declared.disk.Disk.{Ghosts}
use Rattle.org_disk.specs.declared.disk.DiskFault.{DiskFault}
use Rattle.org_test_disks.specs.declared.fuse.Fuse.{Fuse}

-- the failures of a fuse, its own and its disk's, at most what a count holds
abbrev pub fuse_failures : ℕ → ℕ → ℕ
fuse_failures own disk = min (own + disk) (2 ^ 64 - 1)

-- what a call makes of a fuse's honesty, which is its disk's, and of its count of failures
abbrev pub AccountsOfFuse : {D : Type 0} {A : Type 0} → Ghosts D → Fuse D → Fuse D
    → Result A DiskFault → Type 0
AccountsOfFuse g old new result =
    AccountsOfCall g.truthful (λ fuse. g.honest fuse.disk)
    (λ fuse. fuse_failures fuse.failures (g.failures fuse.disk)) old new result

-- A call is one of those that pass, and no failure of the fuse's own; where none was left it fails,
-- and the disk is as it was.
pub record Burns {D : Type 0} {A : Type 0} (old new : Fuse D) (result : Result A DiskFault)
    : Type 0 where
  pub spent : new.passes ≡ old.passes - 1
  pub blown : old.passes ≡ 0 → IsErr result × (new.disk ≡ old.disk)
  pub passed : 0 < old.passes → new.failures ≡ old.failures
