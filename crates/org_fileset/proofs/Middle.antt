-- What lies on the disk between two parts of a call.
use Rattle.std.proofs.Common.{◌≡◌, ◌⊎◌, inl, inr, ⊎_elim, ℕ, List, false, sym, ◌∙◌}
use Rattle.org_disk.specs.declared.disk.Disk.{Ghosts}
use Rattle.org_disk.specs.CountsFailures.{LeavesOver}
use Rattle.org_disk.specs.Disk.{FileState, AreImages}
use Rattle.org_disk.specs.Names.{journal_name}
use Rattle.org_journal.specs.Gate.{is_open}
use Rattle.org_journal.specs.Recovered.{Image, SameFiles, RecoversTo, contents}
use Rattle.org_fileset.specs.Laws.{AreOtherFiles, IsBetween}
use Rattle.org_fileset.specs.Replay.{IsAtRest, IsBeforeOrAfter, IsCommitted}
use Rattle.org_fileset.proofs.Commits.{shut}

-- with a closed gate an image recovers to nothing but its own files
closed_recovers : (texts image : Image) → is_open (image journal_name) ≡ false → RecoversTo texts image → SameFiles image texts
closed_recovers texts image closed recovers = rw closed at recovers

-- so does a disk at rest
pub rest_recovers : (files : List ℕ → FileState) (texts : Image) → IsAtRest files → RecoversTo texts (contents files) → SameFiles (contents files) texts
rest_recovers files texts rest = closed_recovers texts (contents files) (shut (contents files journal_name) rest.gate.closed)

-- an image of the disk in the middle is one that a crash might have left since the start
pub counts_between : {D : Type 0} (g : Ghosts D) (old mid new : D)
    → ((image : Image) → AreImages (g.files mid) image → g.left_since mid (g.instant old) image) → IsBetween g old mid new
    → (image : Image) → AreImages (g.files mid) image → g.left_since new (g.instant old) image
counts_between g old mid new counts between image left = between.keeps image (counts image left)

pub middle_of_commit : {D : Type 0} (g : Ghosts D) (old mid new : D) (after : Image)
    → ((image : Image) → AreImages (g.files mid) image → g.left_since mid (g.instant old) image) → AreImages (g.files mid) (contents (g.files mid)) → IsAtRest (g.files mid)
    → IsBetween g old mid new → LeavesOver g old new (IsBeforeOrAfter (contents (g.files old)) after)
    → SameFiles (contents (g.files mid)) (contents (g.files old)) ⊎ SameFiles (contents (g.files mid)) after
middle_of_commit g old mid new after counts own rest between leaves =
    ⊎_elim (λ before. inl (rest_recovers (g.files mid) (contents (g.files old)) rest before)) (λ made. inr (rest_recovers (g.files mid) after rest made))
    (leaves.each (contents (g.files mid)) (counts_between g old mid new counts between (contents (g.files mid)) own))

differ : (half held other : Image) → SameFiles held half → AreOtherFiles half other → SameFiles held other → ⊥
differ half held other made apart same = apart.differs (sym (made apart.name apart.apart) ∙ same apart.name apart.apart)

pub commits_apart : {D : Type 0} (g : Ghosts D) (old mid new : D) (half after : Image)
    → ((image : Image) → AreImages (g.files mid) image → g.left_since mid (g.instant old) image) → AreImages (g.files mid) (contents (g.files mid)) → IsAtRest (g.files old)
    → IsCommitted half (g.files old) (g.files mid) → AreOtherFiles half (contents (g.files old)) → AreOtherFiles half after
    → IsBetween g old mid new → LeavesOver g old new (IsBeforeOrAfter (contents (g.files old)) after) → ⊥
commits_apart g old mid new half after counts own rest made from_old from_new between leaves =
    ⊎_elim (differ half (contents (g.files mid)) (contents (g.files old)) made.made from_old) (differ half (contents (g.files mid)) after made.made from_new)
    (middle_of_commit g old mid new after counts own (made.rest rest) between leaves)

-- what two commits leave, one after the other
pub between_commits : {D : Type 0} (g : Ghosts D) (old mid new : D) {P Q : Image → Type 0}
    → LeavesOver g old mid P → LeavesOver g mid new Q → IsBetween g old mid new
between_commits g old mid new first second =
    record { later = first.passes.later; keeps = λ image left. second.passes.keeps (g.instant old) image first.passes.later left }
