use Rattle.org_journal.specs.Recovered.{contents, replayed}
use Rattle.org_fileset.proofs.Going.{GoesOn}
use Rattle.org_fileset.proofs.Replaying.{HaveTexts, AreUntouched}
use Rattle.org_fileset.proofs.apply.apply_all.Given as goal

-- the entries so far are applied
abbrev pub invariant-loop-index : goal.invariant-loop-index
invariant-loop-index g l =
    let files = g.D.Disk.files in
    record {
      goes : GoesOn g.D.Disk l.entries l.fn.disk l.disk;
      have : g.D.Disk.honest l.disk → HaveTexts l.entries (replayed l.entries (contents (files l.fn.disk))) l.index (files l.disk);
      untouched : g.D.Disk.honest l.disk → AreUntouched l.entries l.index (files l.fn.disk) (files l.disk);
    }
