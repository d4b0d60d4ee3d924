use Rattle.org_disk.specs.CountsFailures.{CountsFailures, LooksOver}
use Rattle.org_fileset.proofs.commit.confirm_all.Given as goal

-- the calls so far only looked
abbrev pub invariant-loop-index : goal.invariant-loop-index
invariant-loop-index g l =
    let disk = g.D.Disk in
    record {
      looks : disk.honest l.disk → LooksOver disk l.fn.disk l.disk;
      accounts : CountsFailures disk l.fn.disk l.disk ⊥;
    }
