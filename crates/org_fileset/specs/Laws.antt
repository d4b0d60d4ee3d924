-- The words of the laws.
use Rattle.std.specs.Prelude.{◌≡◌, ◌≢◌, ◌⊎◌, ℕ, ◌≤◌, List, Result}
use Rattle.org_disk.specs.declared.disk.Disk.{Ghosts}
use Rattle.org_disk.specs.Disk.{FileState, IsStable, AreImages, AreLeftBy, Changes}
use Rattle.org_disk.specs.Names.{journal_name}
use Rattle.org_disk.specs.declared.disk.DiskFault.{DiskFault}
use Rattle.org_splice.specs.Texts.{EditedText}
use Rattle.org_journal.specs.declared.record.Entry.{Entry}
use Rattle.org_journal.specs.Record.{IsRecord}
use Rattle.org_journal.specs.Recovered.{Image, SameFiles, RecoversTo, IsOpenOverRecord, IsRecoverable, contents}
use Rattle.org_fileset.specs.Entries.{changed}
use Rattle.org_fileset.specs.Recovery.{EachRecovers}
use Rattle.org_fileset.specs.Replay.{IsAtRest}

-- The journal stands open on the disk with this record, and whatever a crash leaves recovers to
-- these texts.
pub record IsOpenFor (entries : List Entry) (texts : Image) (files : List ℕ → FileState)
    : Type 0 where
  pub stable : IsStable (files journal_name)
  pub over_record : IsOpenOverRecord files
  pub same_entries : over_record.entries ≡ entries
  pub same_texts : over_record.texts ≡ texts
  pub formed : IsRecord entries

-- A call of this effect on the file of one name keeps that: whatever a crash leaves within the call
-- recovers to the texts, and after the call, also where it failed, the journal stands open as
-- before, and what a crash leaves recovers to them.
pub record KeepsTexts (effect : FileState → FileState) (name : List ℕ) (entries : List Entry)
    (texts : Image) (files : List ℕ → FileState) : Type 0 where
  pub any_moment : (image : Image) → AreLeftBy effect name files image → RecoversTo texts image
  pub after : (new : List ℕ → FileState) (result : Result (Unit {0}) DiskFault)
      → Changes effect name files new result → IsOpenFor entries texts new

-- each of the files by itself is as it was, or as the changes make it
abbrev pub IsEachOldOrNew : List (List ℕ × EditedText) → Image → Image → Type 0
IsEachOldOrNew changes files texts =
    (name : List ℕ) → name ≢ journal_name
    → (texts name ≡ files name) ⊎ (texts name ≡ changed changes files name)

-- Each file is on the disk. So a disk is found after a crash: it holds one image of what it was.
abbrev pub AllStable : (List ℕ → FileState) → Type 0
AllStable files = (name : List ℕ) → IsStable (files name)

-- Recoverable, and whatever a crash leaves of it has P.
pub record IsFound (P : Image → Type 0) (files : List ℕ → FileState) : Type 0 where
  pub recoverable : IsRecoverable files
  pub each_recovers : EachRecovers files
  pub each : (image : Image) → AreImages files image → P image

-- these files, all at rest
pub record AreAtRest (texts : Image) (files : List ℕ → FileState) : Type 0 where
  pub rest : IsAtRest files
  pub same : SameFiles (contents files) texts

-- Calls go from the one disk to the other by way of this one: nothing that a crash might have left
-- of it is forgotten.
pub record IsBetween {D : Type 0} (g : Ghosts D)
    (old mid new : D) : Type 0 where
  pub later : g.instant old ≤ g.instant mid
  pub keeps : (image : Image) → g.left_since mid (g.instant old) image
      → g.left_since new (g.instant old) image

-- some file but the journal has other bytes
pub record AreOtherFiles (one other : Image) : Type 0 where
  pub name : List ℕ
  pub apart : name ≢ journal_name
  pub differs : one name ≢ other name
