use Rattle.std.proofs.Common.{◌≡◌, List, ℕ, take}
use Rattle.std.specs.List.{Contains}
use Rattle.org_disk.specs.Disk.{IsImage, IsStable, AreImages}
use Rattle.org_disk.specs.CountsFailures.{CountsFailures, PassesOver}
use Rattle.org_journal.specs.Recovered.{contents}
use Rattle.org_serve.proofs.syncing.sync_each.Given as goal

-- the files so far are synced
abbrev pub invariant-loop-name : goal.invariant-loop-name
invariant-loop-name g l =
    let disk = g.D.Disk in
    record {
      accounts : CountsFailures disk l.fn.disk l.disk ⊥;
      same : disk.honest l.disk → contents (disk.files l.disk) ≡ contents (disk.files l.fn.disk);
      stable : disk.honest l.disk → (name : List ℕ) → Contains (take l.name-index l.names) name → IsStable (disk.files l.disk name);
      images : disk.honest l.disk → (name bytes : List ℕ) → IsImage (disk.files l.disk name) bytes → IsImage (disk.files l.fn.disk name) bytes;
      others : disk.honest l.disk → (name : List ℕ) → (Contains l.names name → ⊥) → disk.files l.disk name ≡ disk.files l.fn.disk name;
      time : disk.honest l.disk → PassesOver disk l.fn.disk l.disk (AreImages (disk.files l.fn.disk));
    }
