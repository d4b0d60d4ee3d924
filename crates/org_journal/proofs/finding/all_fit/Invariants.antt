use Rattle.std.proofs.Common.{◌≡◌, drop}
use Rattle.org_disk.specs.CountsFailures.{CountsFailures, LooksOver}
use Rattle.org_journal.specs.Recovered.{contents, all_fit}
use Rattle.org_journal.specs.Finding.{HaveWellFormedPatches}
use Rattle.org_journal.proofs.finding.all_fit.Given as goal

abbrev pub invariant-loop-entry : goal.invariant-loop-entry
invariant-loop-entry g l =
    let disk = g.D.Disk in
    record {
      formed : HaveWellFormedPatches (drop l.entry-index l.entries);
      accounts : CountsFailures disk l.fn.disk l.disk ⊥;
      looks : disk.honest l.disk → LooksOver disk l.fn.disk l.disk;
      fit : disk.honest l.disk → all_fit (drop l.entry-index l.entries) (contents (disk.files l.fn.disk)) ≡ all_fit l.entries (contents (disk.files l.fn.disk));
    }
