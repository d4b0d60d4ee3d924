-- The files of a store, synced before it is opened over them, and what a crash leaves of them then.
use Rattle.std.specs.Prelude.{◌≡◌, ◌⊎◌, ℕ, List, ◌∷◌, Result, Err, IfErr, OnOk, IsSomeAnd}
use Rattle.std.specs.List.{Contains}
use Rattle.org_disk.specs.declared.disk.Disk.{Ghosts}
use Rattle.org_disk.specs.CountsFailures.{LeavesOver}
use Rattle.org_disk.specs.Disk.{FileState, IsImage, IsStable, AreImages}
use Rattle.org_disk.specs.Names.{journal_name}
use Rattle.org_journal.specs.Recovered.{Image, IsRecoverable, RecoversTo, recovered, contents}
use Rattle.org_fileset.specs.Names.{with_archives, AreFew, AreTooMany}
use Rattle.org_fileset.specs.declared.open.OpenFault.{OpenFault}
use Rattle.org_fileset.specs.declared.open.OpenFault.TheVariants.{TooManyFiles, Device, OutOfMemory}

-- the names of a store's files: the journal's, the given ones, and those of their archive files
abbrev pub stored : List (List ℕ) → List (List ℕ)
stored given = journal_name ∷ with_archives given

-- the file of this name is neither the journal nor one of a store's with these names
abbrev pub IsNotStored : List (List ℕ) → List ℕ → Type 0
IsNotStored given name = Contains (stored given) name → ⊥

-- All files read as before, and each of these is on the disk.
pub record AreSynced (names : List (List ℕ)) (old new : List ℕ → FileState) : Type 0 where
  pub same : contents new ≡ contents old
  pub stable : (name : List ℕ) → Contains names name → IsStable (new name)

-- The files of these names were synced, all of them or, where a sync failed, some.
pub record SyncsOver {D A E : Type 0} (g : Ghosts D) (names : List (List ℕ)) (old new : D)
    (result : Result A E) : Type 0 where
  pub done : OnOk result (AreSynced names (g.files old) (g.files new))
  -- a crash leaves of a file what it might have left before
  pub images : (name bytes : List ℕ) → IsImage (g.files new name) bytes
      → IsImage (g.files old name) bytes
  -- no other file is synced
  pub others : (name : List ℕ) → (Contains names name → ⊥) → g.files new name ≡ g.files old name
  -- so it is at any moment since the call began
  pub any_moment : LeavesOver g old new (AreImages (g.files old))

abbrev pub Syncs : {D A E : Type 0} → Ghosts D → List (List ℕ) → D → D → Result A E → Type 0
Syncs g names old new result = g.honest new → SyncsOver g names old new result

-- a sync of a store's files isn't done for this reason
abbrev pub IsSyncFault : List (List ℕ) → OpenFault → Type 0
IsSyncFault given TooManyFiles = AreTooMany given
IsSyncFault given Device = AreFew given
IsSyncFault given OutOfMemory = Unit {0}
IsSyncFault given fault = ⊥

-- What a sync of a store's files answers: the given names are few, or it isn't done, for a reason.
-- Too many names leave the disk unused.
pub record AnswersSync {D A : Type 0} (given : List (List ℕ)) (old new : D)
    (result : Result A OpenFault) : Type 0 where
  pub few : OnOk result (AreFew given)
  pub refused : IfErr result (IsSyncFault given)
  pub unused : result ≡ Err TooManyFiles → new ≡ old

-- The store's files were synced, and all others are as they were.
pub record AreOwnSynced (given : List (List ℕ)) (old new : List ℕ → FileState) : Type 0 where
  pub own : AreSynced (stored given) old new
  pub others : (name : List ℕ) → IsNotStored given name → new name ≡ old name

-- What a run supposes of its folder: once the store's files are synced, the disk is recoverable. So
-- every other file is on the disk, unless the record of an open journal names it; and that record
-- makes the same of whatever a crash leaves of the files that it names.
abbrev pub IsRecoverableOnceSynced : List (List ℕ) → (List ℕ → FileState) → Type 0
IsRecoverableOnceSynced given files =
    (synced : List ℕ → FileState) → AreOwnSynced given files synced → IsRecoverable synced

-- every file but the store's is on the disk
abbrev pub OutsideStable : List (List ℕ) → (List ℕ → FileState) → Type 0
OutsideStable given files = (name : List ℕ) → IsNotStored given name → IsStable (files name)

-- of the files that aren't the store's, those that were on the disk still are
abbrev pub OutsideStaysStable : List (List ℕ) → (old new : List ℕ → FileState) → Type 0
OutsideStaysStable given old new =
    (name : List ℕ) → IsNotStored given name → IsStable (old name) → IsStable (new name)

-- the image recovers to what the files recover to as they read
abbrev pub RecoversAsRead : (List ℕ → FileState) → Image → Type 0
RecoversAsRead files image =
    IsSomeAnd (recovered (contents files)) (λ texts. RecoversTo texts image)

-- what a crash leaves of the files as they were found, or what recovers to them as they read
abbrev pub IsAsFound : (List ℕ → FileState) → Image → Type 0
IsAsFound files image = AreImages files image ⊎ RecoversAsRead files image
