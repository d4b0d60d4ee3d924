use Rattle.std.proofs.Common.{◌-◌, ◌≤◌}
use Rattle.org_disk.specs.CountsFailures.{CountsFailures, LooksOver}
use Rattle.org_journal.proofs.gate.write_record_again.Given as goal

-- only bytes that are there were written so far
abbrev pub invariant-loop-from : goal.invariant-loop-from
invariant-loop-from g l =
    let disk = g.D.Disk in
    record {
      within : l.from ≤ l.end;
      accounts : CountsFailures disk l.fn.disk l.disk ⊥;
      looks : disk.honest l.disk → LooksOver disk l.fn.disk l.disk;
    }

abbrev pub decreases-loop-from : goal.decreases-loop-from
decreases-loop-from g l = l.end - l.from
