-- What is said of the calls on a folder's files where each answer so far was right. A clause hands
-- these words all that is seen of calls of the type S, as `S.System`, and the calls before and
-- after.
use Rattle.std.specs.Prelude.{◌≡◌, ◌<◌, ℕ, List, length, Result, All, IsTrue}
use Rattle.std.specs.List.{HoldsAt}
use Rattle.org_disk.specs.Disk.{FileState}
use Rattle.org_disk.specs.declared.disk.DiskFault.{DiskFault}
use Rattle.org_folder.specs.Calls.{Event, AreRight, AreAbsent, CountsCall, Does, HasEntered, IsWithin, Looks, StandIn, files}
use Rattle.org_folder.specs.declared.system.System.{Ghosts}
use Rattle.org_folder.specs.declared.system.Opened.{Opened}

module _ {C F : Type 0} (g : Ghosts C F) where
  -- each answer so far was right
  abbrev pub HasBeenRight : C → Type 0
  HasBeenRight calls = AreRight g.world (g.history calls)

  -- the file of a name
  abbrev pub file_of : C → List ℕ → FileState
  file_of calls = files g.world (g.history calls)

  -- what the file of a name reads as
  abbrev pub content_of : C → List ℕ → List ℕ
  content_of calls name = (file_of calls name).content

  -- where each answer was right: the place is no farther than the end of this file
  abbrev pub LiesWithin : C → List ℕ → ℕ → Type 0
  LiesWithin calls = IsWithin g.world (g.history calls)

  -- where each answer was right: these bytes stand in this file from this place on
  abbrev pub HoldsThere : C → List ℕ → ℕ → List ℕ → Type 0
  HoldsThere calls = StandIn g.world (g.history calls)

  -- where each answer was right: none of these names has a file
  abbrev pub HaveNoFiles : C → List (List ℕ) → Type 0
  HaveNoFiles calls = AreAbsent g.world (g.history calls)

  -- where each answer was right: so was each before, and the calls since then only looked
  abbrev pub LooksRight : C → C → Type 0
  LooksRight old new =
      HasBeenRight new → HasBeenRight old × Looks g.world (g.history old) (g.history new)

  -- where each answer was right: so was each before, and a call since then had this effect on the
  -- file of a name, as far as it got
  abbrev pub DoesRight : (FileState → FileState) → List ℕ → C → C
      → Result (Unit {0}) DiskFault → Type 0
  DoesRight effect name old new result =
      HasBeenRight new
      → HasBeenRight old × Does g.world effect name (g.history old) (g.history new) result

  -- what a call makes of the count of failures, however right the answers were
  abbrev pub NotesFailure : {A : Type 0} → C → C → Result A DiskFault → Type 0
  NotesFailure old new result = CountsCall (g.history old) (g.history new) result

-- each of these files that is said to have its entry on the device has it there
abbrev pub AreEntered : {F : Type 0} → List Event → List (Opened F) → Type 0
AreEntered calls = All (λ opened. IsTrue opened.is_entered → HasEntered opened.name calls)

-- at this place stands the file that was opened under a name
abbrev pub StandsAt : {F : Type 0} → List ℕ → List (Opened F) → ℕ → Type 0
StandsAt name files at = HoldsAt (λ opened. opened.name ≡ name) files at × (at < length files)
