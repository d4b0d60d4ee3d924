-- What a crash may leave while a call of a store runs: the files after the commands that were
-- acknowledged when it began, or those that the call puts on the disk.
use Rattle.std.specs.Prelude.{◌≡◌, ◌≢◌, ◌⊎◌, ℕ, ◌+◌, List, ◌++◌, Result, Ok, Err, IsTrue, IsFalse}
use Rattle.org_disk.specs.Names.{journal_name}
use Rattle.org_fileset.specs.Writes.{IsOther}
use Rattle.org_journal.specs.Recovered.{Image}
use Rattle.org_commands.specs.declared.command.RunFault.{RunFault}
use Rattle.org_commands.specs.declared.command.RunFault.TheVariants.{Device}
use Rattle.org_commands.specs.InOrder.{is_name}
use Rattle.org_commands.specs.Session.{Session, Holds}
use Rattle.org_commands.specs.Outcome.{Outcome, Accepts, AsksToSettle}
use Rattle.org_commands.specs.Step.{fills}

-- A call with this outcome puts these texts on the disk, where so many commands are accepted when
-- it ends: it settles all, as it was asked to, or as the command fills the group; a command that
-- isn't counted then is not on the disk.
abbrev pub PutsOnDisk : Session → Outcome → ℕ → List (List ℕ) → Type 0
PutsOnDisk old (Accepts names files) accepted texts =
    (texts ≡ files) × IsTrue (fills old) × (accepted ≡ old.accepted + 1)
PutsOnDisk old AsksToSettle accepted texts = texts ≡ old.files
PutsOnDisk old outcome accepted texts = ⊥

-- a call with this answer may have written: it did as it was to do, or the disk failed
abbrev pub MayHaveWritten : {A : Type 0} → Result A RunFault → Type 0
MayHaveWritten (Ok _) = Unit {0}
MayHaveWritten (Err fault) = fault ≡ Device

-- What a crash leaves while a call runs that is to do this and gets this answer, and so many
-- commands are accepted when it ends; `others` are the files that aren't the store's.
abbrev pub IsLeft : {A : Type 0} → Session → Image → Outcome → Result A RunFault → ℕ → Image
    → Type 0
IsLeft old others outcome answer accepted image =
    Holds old others old.settled image
    ⊎ (MayHaveWritten answer
    × ((texts : List (List ℕ))
    × PutsOnDisk old outcome accepted texts
    × Holds old others texts image))

-- The file of this name isn't written by a call with this outcome, where these files are dirty,
-- and so many commands are accepted when it ends. Only a settling writes: the journal, the dirty
-- files, and those that the command is to give new texts; where there are none of these files,
-- nothing.
abbrev pub IsSpared : Session → List (List ℕ) → Outcome → ℕ → List ℕ → Type 0
IsSpared old dirty (Accepts names files) accepted name =
    IsTrue (fills old) → accepted ≡ old.accepted + 1 → IsOther (dirty ++ names) name
IsSpared old dirty AsksToSettle accepted name = IsOther dirty name
IsSpared old dirty outcome accepted name = Unit {0}

-- .. and it is left alone by one with this answer, which may not have written at all
abbrev pub IsLeftAlone : {A : Type 0} → Session → List (List ℕ) → Outcome → Result A RunFault → ℕ
    → List ℕ → Type 0
IsLeftAlone old dirty outcome answer accepted name =
    MayHaveWritten answer → IsSpared old dirty outcome accepted name

-- the file of this name is neither the journal nor one of these
pub record IsApart (names : List (List ℕ)) (name : List ℕ) : Type 0 where
  pub apart : name ≢ journal_name
  pub unnamed : IsFalse (is_name names name)
