use Rattle.std.proofs.Common.{◌≡◌, List, ℕ}
use Rattle.org_journal.specs.Recovered.{contents}
use Rattle.org_fileset.proofs.Going.{GoesOn}
use Rattle.org_fileset.proofs.Replaying.{AreStable}
use Rattle.org_fileset.proofs.apply.sync_all.Given as goal

-- the files of the entries so far are on the disk
abbrev pub invariant-loop-entry : goal.invariant-loop-entry
invariant-loop-entry g l =
    let files = g.D.Disk.files in
    record {
      goes : GoesOn g.D.Disk l.entries l.fn.disk l.disk;
      contents : g.D.Disk.honest l.disk → (name : List ℕ) → contents (files l.disk) name ≡ contents (files l.fn.disk) name;
      stable : g.D.Disk.honest l.disk → AreStable l.entries l.entry-index (files l.disk);
    }
