use Rattle.std.proofs.Common.{◌≡◌}
use Rattle.org_test_disks.specs.Memory.{IsLeft, memory_files, call_count}
use Rattle.org_test_disks.specs.declared.memory.Crash.TheVariants.{Never}
use Rattle.org_test_disks.proofs.ImageSoFar.{IsImageSoFar}
use Rattle.org_test_disks.proofs.memory.MemoryDisk.image.Given as goal

abbrev pub invariant-loop-i : goal.invariant-loop-i
invariant-loop-i l = IsImageSoFar l.self.contents (IsLeft l.self) l.i (memory_files l.image) × (l.image.failures ≡ 0) × (l.image.fail_in ≡ 0) × (l.image.crash ≡ Never) × (call_count l.image ≡ 0)
