-- What an opening may leave.
use Rattle.std.specs.Prelude.{◌≡◌, ℕ, nat_le, ◌+◌, Bool, ◌&&◌, not, List, [], ◌∷◌, length, drop, Result, OnOk, IsSomeAnd, IsTrue, is_some, None, if◌then◌else◌}
use Rattle.org_disk.specs.declared.disk.Disk.{Ghosts}
use Rattle.org_disk.specs.Disk.{FileState, AreImages}
use Rattle.org_disk.specs.CountsFailures.{LeavesOver}
use Rattle.org_disk.specs.Names.{journal_name}
use Rattle.org_splice.specs.Overwritten.{overwritten}
use Rattle.org_journal.specs.Finding.{record_size}
use Rattle.org_journal.specs.Gate.{front_size, is_open, HasClosedGate}
use Rattle.org_journal.specs.Recovered.{Image, SameFiles, RecoversTo, IsRecoverable, contents, recovered}
use Rattle.org_fileset.specs.Left.{EachIsLeft, IsLeft}
use Rattle.org_fileset.specs.Replay.{IsAtRest}
use Rattle.org_fileset.specs.Writes.{LeavesAlone, IsUnconcerned}

-- whatever a crash leaves recovers to files: no journal is bad
abbrev pub EachRecovers : (List ℕ → FileState) → Type 0
EachRecovers files = (image : Image) → AreImages files image → IsTrue (is_some (recovered image))

-- the image recovers to what an image of these files recovered to
pub record RecoversAsBefore (files : List ℕ → FileState) (image : Image) : Type 0 where
  pub start : Image
  pub left : AreImages files start
  pub texts : Image
  pub recovered_then : RecoversTo texts start
  pub recovers_now : RecoversTo texts image

-- the journal is whole, and its gate is closed: it has the bytes of a header, and the first one
-- isn't 1
abbrev pub is_closed : List ℕ → Bool
is_closed journal = nat_le front_size (length journal) && not (is_open journal)

-- a journal with 0 after its record
abbrev pub marked : List ℕ → List ℕ
marked journal = overwritten (front_size + record_size journal) (0 ∷ []) journal

-- What an opening makes of the journal. A whole one with a closed gate stays as it is, whatever
-- byte closes it; of another the first byte is 0 then, the one after the record of an open one is
-- 0 too, and the rest is as it was.
abbrev pub closed_journal : List ℕ → List ℕ
closed_journal journal =
    if is_closed journal then journal
    else 0 ∷ drop 1 (if is_open journal then marked journal else journal)

-- the journal is bad, as it reads, and each content is as it was
abbrev pub IsFoundBad : Image → Image → Type 0
IsFoundBad before now = (recovered before ≡ None) × (now ≡ before)

-- An opening is done: the files are what the disk recovered to, and the gate is closed; a
-- recoverable disk is at rest.
pub record IsReopened (old new : List ℕ → FileState) : Type 0 where
  pub recovered_then : IsSomeAnd (recovered (contents old)) (SameFiles (contents new))
  pub journal : contents new journal_name ≡ closed_journal (contents old journal_name)
  pub gate : HasClosedGate (new journal_name)
  pub rest : IsRecoverable old → EachRecovers old → IsAtRest new

-- What an opening does to a disk that is honest after it. Where the disk was recoverable, and each
-- image of it recovered to files, a crash at any moment since it began leaves what recovers to
-- them, and the disk is as recoverable after it. Where the journal is bad, as it reads, or is whole
-- and its gate is closed, a crash leaves what it might have left before, and nothing else. Files
-- that no record of an open journal names are left alone.
pub record ReopensOver {D A E : Type 0} (g : Ghosts D) (old new : D) (result : Result A E)
    : Type 0 where
  pub done : OnOk result (IsReopened (g.files old) (g.files new))
  pub any_moment : IsRecoverable (g.files old) → EachRecovers (g.files old)
      → LeavesOver g old new (RecoversAsBefore (g.files old))
  pub recoverable : IsRecoverable (g.files old) → EachRecovers (g.files old)
      → IsRecoverable (g.files new)
  -- .. and what is left is as the record of an open journal allows, if it was so at the start: no
  -- file is found to be changed by its bytes
  pub left : IsRecoverable (g.files old) → EachRecovers (g.files old) → EachIsLeft (g.files old)
      → LeavesOver g old new IsLeft
  pub bad : recovered (contents (g.files old)) ≡ None
      → LeavesOver g old new (AreImages (g.files old))
  -- A whole journal with a closed gate leaves nothing to finish: whatever is answered, a
  -- crash leaves what it might have left before.
  pub idle : IsTrue (is_closed (contents (g.files old) journal_name))
      → LeavesOver g old new (AreImages (g.files old))
  pub alone : LeavesAlone g (IsUnconcerned (contents (g.files old) journal_name)) old new

abbrev pub Reopens : {D A E : Type 0} → Ghosts D → D → D → Result A E → Type 0
Reopens g old new result = g.honest new → ReopensOver g old new result
