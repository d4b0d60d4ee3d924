use Rattle.std.proofs.Common.{◌≡◌, ◌≢◌, take}
use Rattle.org_disk.specs.CountsFailures.{CountsFailures}
use Rattle.org_splice.specs.Patches.{patched_each}
use Rattle.org_splice.specs.Texts.{pairs_of}
use Rattle.org_fileset.specs.Replay.{AppliesOver}
use Rattle.org_fileset.specs.Writes.{LeavesAlone}
use Rattle.org_fileset.proofs.apply.apply_patches.Given as goal

-- the patches so far are applied, and the rest will make the same of whatever a crash leaves
abbrev pub invariant-loop-patch : goal.invariant-loop-patch
invariant-loop-patch g l =
    let disk = g.D.Disk in
    let patches = pairs_of l.entry.patches in
    record {
      accounts : CountsFailures disk l.fn.disk l.disk ⊥;
      content : disk.honest l.disk → (disk.files l.disk l.entry.name).content ≡ patched_each (take l.patch-index patches) (disk.files l.fn.disk l.entry.name).content;
      alone : disk.honest l.disk → LeavesAlone disk (λ other. other ≢ l.entry.name) l.fn.disk l.disk;
      applies : disk.honest l.disk → AppliesOver disk l.entry l.fn.disk l.disk;
    }
