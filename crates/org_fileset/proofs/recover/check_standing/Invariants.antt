use Rattle.org_disk.specs.CountsFailures.{CountsFailures, LooksOver}
use Rattle.org_fileset.proofs.recover.check_standing.Given as goal

abbrev pub invariant-loop-entry : goal.invariant-loop-entry
invariant-loop-entry g l =
    let disk = g.D.Disk in
    record {
      looks : disk.honest l.disk → LooksOver disk l.fn.disk l.disk;
      accounts : CountsFailures disk l.fn.disk l.disk ⊥;
    }
