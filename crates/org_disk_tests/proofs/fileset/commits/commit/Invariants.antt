use Rattle.org_test_disks.specs.Memory.{memory_files}
use Rattle.org_journal.specs.Recovered.{contents}
use Rattle.org_fileset.specs.Set.{AreCommittable}
use Rattle.org_disk_tests.proofs.fileset.commits.commit.Given as goal

abbrev pub invariant-loop-edit : goal.invariant-loop-edit
invariant-loop-edit g l = AreCommittable l.set.names (contents (memory_files l.set.disk)) l.changes
