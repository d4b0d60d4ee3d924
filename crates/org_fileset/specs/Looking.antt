-- What a look at the journal leaves.
use Rattle.std.specs.Prelude.{◌≡◌, ℕ, List, Ok}
use Rattle.org_disk.specs.declared.disk.Disk.{Ghosts}
use Rattle.org_disk.specs.Disk.{FileState, AreImages, IsStable}
use Rattle.org_disk.specs.CountsFailures.{PassesOver}
use Rattle.org_disk.specs.Names.{journal_name}
use Rattle.org_journal.specs.declared.finding.Found.{Found}
use Rattle.org_journal.specs.Finding.{Finds}
use Rattle.org_journal.specs.Recovered.{Image, IsRecoverable, contents}
use Rattle.org_fileset.specs.Writes.{LeavesAlone, IsUnconcerned}

-- The journal was synced and looked at, or that failed: a crash, meanwhile or later, leaves what it
-- might have left before, and a recoverable disk stays so.
pub record IsLookedAt {D : Type 0} (g : Ghosts D) (old new : D) : Type 0 where
  pub images : (image : Image) → AreImages (g.files new) image → AreImages (g.files old) image
  pub time : PassesOver g old new (AreImages (g.files old))
  pub recoverable : IsRecoverable (g.files old) → IsRecoverable (g.files new)
  pub alone : LeavesAlone g
      (IsUnconcerned (contents (g.files old) journal_name)) old new

-- This was found in the journal, which is on the disk; each content is as it was.
pub record IsFoundIn (old new : List ℕ → FileState) (found : Found) : Type 0 where
  pub stable : IsStable (new journal_name)
  pub same : contents new ≡ contents old
  pub holds : Finds (contents new) (Ok found)
