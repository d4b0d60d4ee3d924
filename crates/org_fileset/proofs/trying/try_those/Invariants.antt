use Rattle.std.proofs.Common.{Ok}
use Rattle.org_disk.specs.CountsFailures.{CountsFailures}
use Rattle.org_fileset.specs.Writes.{TriesOver}
use Rattle.org_fileset.proofs.trying.try_those.Given as goal

-- no try has failed
abbrev pub invariant-loop-entry : goal.invariant-loop-entry
invariant-loop-entry g l =
    let disk = g.D.Disk in
    record {
      tries : disk.honest l.disk → TriesOver disk l.entries l.fn.disk l.disk (Ok tt);
      accounts : CountsFailures disk l.fn.disk l.disk ⊥;
    }
