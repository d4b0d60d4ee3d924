-- What lies on the disk between two parts of a call of a store.
use Rattle.std.proofs.Common.{⊎_elim, ℕ, List, Result}
use Rattle.org_disk.specs.declared.disk.Disk.{Ghosts}
use Rattle.org_disk.specs.CountsFailures.{LeavesOver}
use Rattle.org_disk.specs.Disk.{FileState, AreImages}
use Rattle.org_journal.specs.Recovered.{Image, SameFiles, contents}
use Rattle.org_fileset.specs.Laws.{AreOtherFiles, IsBetween}
use Rattle.org_fileset.specs.Replay.{IsAtRest}
use Rattle.org_fileset.proofs.Middle.{counts_between, rest_recovers}
use Rattle.org_commands.specs.declared.command.RunFault.{RunFault}
use Rattle.org_commands.specs.InOrder.{with_texts}
use Rattle.org_store.specs.Left.{IsLeft, PutsOnDisk}
use Rattle.org_commands.specs.Outcome.{Outcome}
use Rattle.org_commands.specs.Session.{Session}

pub left_between : {D : Type 0} (g : Ghosts D) (old mid new : D) {A : Type 0}
    (s : Session) (others : Image) (does : Outcome) (answer : Result A RunFault) (accepted : ℕ)
    → ((image : Image) → AreImages (g.files mid) image → g.left_since mid (g.instant old) image) → AreImages (g.files mid) (contents (g.files mid))
    → IsBetween g old mid new → LeavesOver g old new (IsLeft s others does answer accepted)
    → IsLeft s others does answer accepted (contents (g.files mid))
left_between g old mid new s others does answer accepted counts own between leaves =
    leaves.each (contents (g.files mid)) (counts_between g old mid new counts between (contents (g.files mid)) own)

differs : (held texts : Image) → AreOtherFiles held texts → SameFiles held texts → ⊥
differs held texts apart same = apart.differs (same apart.name apart.apart)

-- at rest it holds the files that were settled, or those that are put on the disk
pub nothing_else_at_rest : {A : Type 0} (files : List ℕ → FileState) (s : Session) (others : Image) (does : Outcome) (answer : Result A RunFault) (accepted : ℕ)
    → IsAtRest files → IsLeft s others does answer accepted (contents files)
    → AreOtherFiles (contents files) (with_texts s.names s.settled others)
    → ((texts : List (List ℕ)) → PutsOnDisk s does accepted texts → AreOtherFiles (contents files) (with_texts s.names texts others)) → ⊥
nothing_else_at_rest files s others does answer accepted rest left from_settled from_put =
    ⊎_elim (λ held. differs (contents files) (with_texts s.names s.settled others) from_settled (rest_recovers files (with_texts s.names s.settled others) rest held))
    (λ put. differs (contents files) (with_texts s.names put.1.0 others) (from_put put.1.0 put.1.1) (rest_recovers files (with_texts s.names put.1.0 others) rest put.1.2)) left
