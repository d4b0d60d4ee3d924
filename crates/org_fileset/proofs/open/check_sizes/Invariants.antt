use Rattle.std.proofs.Common.{◌≡◌, drop, take}
use Rattle.org_disk.specs.CountsFailures.{CountsFailures, LooksOver}
use Rattle.org_journal.specs.Recovered.{contents}
use Rattle.org_fileset.specs.Lengths.{AreLengths}
use Rattle.org_fileset.specs.Names.{first_large}
use Rattle.org_fileset.proofs.open.check_sizes.Given as goal

abbrev pub invariant-loop-name : goal.invariant-loop-name
invariant-loop-name g l =
    let disk = g.D.Disk in
    record {
      sizes : disk.honest l.disk → first_large (contents (disk.files l.fn.disk)) (drop l.name-index l.names) ≡ first_large (contents (disk.files l.fn.disk)) l.names;
      lengths : disk.honest l.disk → AreLengths (take l.name-index l.names) l.lengths.items (contents (disk.files l.fn.disk));
      looks : disk.honest l.disk → LooksOver disk l.fn.disk l.disk;
      accounts : CountsFailures disk l.fn.disk l.disk ⊥;
    }
