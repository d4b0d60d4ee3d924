-- A record of the calls of the operating system, and how the record of a folder's calls goes with
-- it.
use Rattle.std.specs.Prelude.{◌≡◌, ◌⊎◌, ℕ, Bool, true, false, not, ◌&&◌, ◌==◌, List, [], ◌∷◌, ◌++◌, Option, Some, None, Result, Ok, Err, ◌||◌, if◌then◌else◌, IsTrue, IsFalse}
use Rattle.std.specs.Str.{bytes_eq}
use Rattle.org_disk.specs.Names.{is_file_name}
use Rattle.org_folder.specs.Calls.{Event}
use Rattle.org_folder.specs.Calls.Event.{Filled, Locked, Above, Alone, Entry, Listed, Folder, There, Led, Unseen, Absent, Length, Read, Write, Again, Cut, Sync, Made, MadeFolder, Entered, Failed}
use Rattle.org_folder.specs.declared.calls.How.{How}
use Rattle.org_folder.specs.declared.calls.How.TheVariants as opened
use Rattle.org_folder.specs.declared.calls.SystemCall.{SystemCall}
use Rattle.org_folder.specs.declared.calls.SystemCall.TheVariants as system
use Rattle.org_folder.specs.declared.calls.Status.{Status}

-- A call with its answer; its path, or the path that its file was opened under; and the bytes that
-- it read, wrote or answered.
pub data Raw : Type 0 where
  Call : SystemCall → List ℕ → List ℕ → Raw

-- what a file was said to be
abbrev pub status_in : {E : Type 0} → Result Status E → Option Status
status_in (Ok status) = Some status
status_in (Err error) = None

-- A folder's path, as it is given or with a slash at its end: with that, it opens nothing else.
abbrev pub IsPathOf : (given path : List ℕ) → Type 0
IsPathOf given path = path ≡ given ⊎ path ≡ given ++ 47 ∷ []

-- whether a file that isn't there is made
abbrev pub makes : How → Bool
makes opened.Read = false
makes opened.Write = false
makes (opened.Make mode) = true
makes (opened.MakeNew mode) = true

-- whether a call changes a file or a folder, puts one on the device, or has paths lead from another
-- folder
abbrev pub has_effect : SystemCall → Bool
has_effect (system.Open how ok) = makes how
has_effect system.Enter = true
has_effect (system.Stat status) = false
has_effect (system.LinkStat status) = false
has_effect (system.FileStat status) = false
has_effect (system.Read from ok) = false
has_effect (system.Write from ok) = true
has_effect (system.Truncate length ok) = true
has_effect (system.DataSync ok) = true
has_effect (system.Sync ok) = true
has_effect (system.MakeFolder ok) = true
has_effect (system.ChangeMode mode ok) = true
has_effect (system.Lock ok) = false
has_effect (system.List ok) = false
has_effect (system.RealPath ok) = false
has_effect (system.Text ok) = false

abbrev pub effects : List Raw → List Raw
effects [] = []
effects (Call made path bytes ∷ earlier) =
    if has_effect made then Call made path bytes ∷ effects earlier else effects earlier

-- calls since the old record had no effect
abbrev pub OnlyAsks : (old new : List Raw) → Type 0
OnlyAsks old new = effects new ≡ effects old

-- the calls that do more than change permissions
abbrev pub acts : List Raw → List Raw
acts [] = []
acts (Call (system.ChangeMode mode ok) path bytes ∷ earlier) = acts earlier
acts (Call made path bytes ∷ earlier) = Call made path bytes ∷ acts earlier

-- whether a file was made under this path
abbrev pub was_made : List ℕ → List Raw → Bool
was_made path [] = false
was_made path (Call (system.Open how true) other bytes ∷ earlier) =
    bytes_eq other path || was_made path earlier
was_made path (Call made other bytes ∷ earlier) = was_made path earlier

-- Permissions were changed only of the journal, whose name no text makes, and of files that were
-- made.
abbrev pub are_own_modes : List Raw → Bool
are_own_modes [] = true
are_own_modes (Call (system.ChangeMode mode ok) path bytes ∷ earlier) =
    (not (is_file_name path) || was_made path earlier) && are_own_modes earlier
are_own_modes (Call made path bytes ∷ earlier) = are_own_modes earlier

-- whether the folder at this path was synced, and no file or folder made since
abbrev pub is_folder_synced : List ℕ → List Raw → Bool
is_folder_synced folder [] = false
is_folder_synced folder (Call (system.Open how ok) path bytes ∷ earlier) = false
is_folder_synced folder (Call (system.MakeFolder ok) path bytes ∷ earlier) = false
is_folder_synced folder (Call (system.Sync true) path bytes ∷ earlier) =
    bytes_eq path folder || is_folder_synced folder earlier
is_folder_synced folder (Call made path bytes ∷ earlier) = is_folder_synced folder earlier

-- the newest call is such a one, and the others go with the rest
abbrev pub head : (Raw → Bool) → (List Raw → Bool) → List Raw → Bool
head is rest [] = false
head is rest (first ∷ earlier) = is first && rest earlier

abbrev pub same : Bool → Bool → Bool
same true did = did
same false did = not did

-- what is said to have succeeded did so
abbrev pub bears_out : Bool → Bool → Bool
bears_out true did = did
bears_out false did = true

-- these bytes were written to this place of the file of this name
abbrev pub is_write : List ℕ → ℕ → List ℕ → Bool → Raw → Bool
is_write name from bytes ok (Call (system.Write at did) path written) =
    bytes_eq path name && ((at == from) && (bytes_eq written bytes && same did ok))
is_write name from bytes ok other = false

-- the file of this name was given this length
abbrev pub is_cut : List ℕ → ℕ → Bool → Raw → Bool
is_cut name to ok (Call (system.Truncate n did) path bytes) =
    bytes_eq path name && ((n == to) && bears_out ok did)
is_cut name to ok other = false

-- the file of this name was put on the device
abbrev pub is_sync : List ℕ → Bool → Raw → Bool
is_sync name ok (Call (system.DataSync did) path bytes) = bytes_eq path name && same did ok
is_sync name ok other = false

-- the file of this name was opened, and made where it wasn't there
abbrev pub is_make : List ℕ → Bool → Raw → Bool
is_make name ok (Call (system.Open how did) path bytes) =
    bytes_eq path name && (makes how && bears_out ok did)
is_make name ok other = false

-- a folder was made at this path
abbrev pub is_folder_make : List ℕ → Bool → Raw → Bool
is_folder_make folder ok (Call (system.MakeFolder did) path bytes) =
    bytes_eq path folder && same did ok
is_folder_make folder ok other = false

-- the folder at this path was synced
abbrev pub is_folder_sync : List ℕ → Bool → Raw → Bool
is_folder_sync folder ok (Call (system.Sync did) path bytes) =
    bytes_eq path folder && bears_out ok did
is_folder_sync folder ok other = false

-- paths were made to lead from the folder at this path
abbrev pub is_enter : List ℕ → Raw → Bool
is_enter path (Call system.Enter other bytes) = bytes_eq other path
is_enter path other = false

-- These calls were made for these steps, in their order, and no other. Where a folder is locked, all
-- paths lead from it from then on; a write is of these bytes to this place of the file that was
-- opened under this name; and so on. A write of no bytes, which tries a file, is no such call. Where
-- a file wasn't made, or a file or an entry not put on the device, it may have come to no call. Nor
-- does it where the entry's own folder was synced since a file or a folder was made, or where bytes
-- would be written over themselves in a file that may not be written.
abbrev pub accounts : List Event → List Raw → Bool
accounts [] [] = true
accounts [] (first ∷ earlier) = false
accounts (Filled path ∷ steps) calls = accounts steps calls
accounts (Locked path ∷ steps) calls = head (is_enter path) (accounts steps) calls
accounts (Above store ∷ steps) calls = accounts steps calls
accounts (Alone ∷ steps) calls = accounts steps calls
accounts (Entry name ∷ steps) calls = accounts steps calls
accounts (Listed folder ok ∷ steps) calls = accounts steps calls
accounts (Folder folder own ∷ steps) calls = accounts steps calls
accounts (There name device number plain link ∷ steps) calls = accounts steps calls
accounts (Led name end ∷ steps) calls = accounts steps calls
accounts (Unseen name ∷ steps) calls = accounts steps calls
accounts (Absent name ∷ steps) calls = accounts steps calls
accounts (Length name n ∷ steps) calls = accounts steps calls
accounts (Read name from bytes ∷ steps) calls = accounts steps calls
accounts (Write name from [] ok ∷ steps) calls = accounts steps calls
accounts (Write name from (byte ∷ bytes) ok ∷ steps) calls =
    head (is_write name from (byte ∷ bytes) ok) (accounts steps) calls
accounts (Again name from bytes ok ∷ steps) calls =
    head (is_write name from bytes ok) (accounts steps) calls || accounts steps calls
accounts (Failed name ∷ steps) calls = accounts steps calls
accounts (Cut name to ok ∷ steps) calls = head (is_cut name to ok) (accounts steps) calls
accounts (Sync name true ∷ steps) calls = head (is_sync name true) (accounts steps) calls
accounts (Sync name false ∷ steps) calls =
    head (is_sync name false) (accounts steps) calls || accounts steps calls
accounts (Made name true ∷ steps) calls = head (is_make name true) (accounts steps) calls
accounts (Made name false ∷ steps) calls =
    head (is_make name false) (accounts steps) calls || accounts steps calls
accounts (MadeFolder folder ok ∷ steps) calls =
    head (is_folder_make folder ok) (accounts steps) calls
accounts (Entered folder name true ∷ steps) calls =
    head (is_folder_sync folder true) (accounts steps) calls
    || (is_folder_synced folder calls && accounts steps calls)
accounts (Entered folder name false ∷ steps) calls =
    head (is_folder_sync folder false) (accounts steps) calls || accounts steps calls

-- The record of these steps goes with this record of calls.
abbrev pub GoesWith : List Event → List Raw → Type 0
GoesWith steps calls = IsTrue (accounts steps (acts (effects calls)))

abbrev pub AreOwnModes : List Raw → Type 0
AreOwnModes calls = IsTrue (are_own_modes (effects calls))

abbrev pub IsFolderSynced : List ℕ → List Raw → Type 0
IsFolderSynced folder calls = IsTrue (is_folder_synced folder (acts (effects calls)))

-- whether each of these folders was synced so
abbrev pub are_folders_synced : List (List ℕ) → List Raw → Bool
are_folders_synced [] calls = true
are_folders_synced (folder ∷ folders) calls =
    is_folder_synced folder calls && are_folders_synced folders calls

abbrev pub AreFoldersSynced : List (List ℕ) → List Raw → Type 0
AreFoldersSynced folders calls = IsTrue (are_folders_synced folders (acts (effects calls)))

-- A file was made under this name, where that succeeded, and perhaps given permissions. A call that
-- failed may have come to none.
pub record MakesAt (name : List ℕ) (old new : List Raw) (ok : Bool) : Type 0 where
  pub how : How
  pub did : Bool
  pub making : IsTrue (makes how)
  pub done : IsTrue (bears_out ok did)
  pub called : acts (effects new) ≡ Call (system.Open how did) name [] ∷ acts (effects old)
  pub modes : AreOwnModes old → AreOwnModes new

abbrev pub IsMadeAt : List ℕ → (old new : List Raw) → Bool → Type 0
IsMadeAt name old new true = MakesAt name old new true
IsMadeAt name old new false = MakesAt name old new false ⊎ OnlyAsks old new

-- permissions of the file that was opened under this path were changed, or nothing was
pub record LimitsMode (path : List ℕ) (old new : List Raw) : Type 0 where
  pub called : acts (effects new) ≡ acts (effects old)
  pub modes : IsFalse (is_file_name path) → AreOwnModes old → AreOwnModes new

-- a file was given this length; a call that failed may have done so too
pub record CutsOff (path : List ℕ) (to : ℕ) (old new : List Raw) (ok : Bool) : Type 0 where
  pub did : Bool
  pub done : IsTrue (bears_out ok did)
  pub is : effects new ≡ Call (system.Truncate to did) path [] ∷ effects old

-- a file was put on the device; a call that failed may have come to no sync
abbrev pub SyncsContent : List ℕ → (old new : List Raw) → Bool → Type 0
SyncsContent path old new true = new ≡ Call (system.DataSync true) path [] ∷ old
SyncsContent path old new false =
    (new ≡ Call (system.DataSync false) path [] ∷ old) ⊎ OnlyAsks old new

-- the folder at this path was synced; a call that failed may have come to no sync
abbrev pub SyncsOne : (folder : List ℕ) (old new : List Raw) (ok : Bool) → Type 0
SyncsOne folder old new ok = effects new ≡ Call (system.Sync ok) folder [] ∷ effects old

abbrev pub SyncsFolder : List ℕ → (old new : List Raw) → Bool → Type 0
SyncsFolder folder old new true = SyncsOne folder old new true
SyncsFolder folder old new false = SyncsOne folder old new false ⊎ OnlyAsks old new

-- an entry in this folder was put on the device: by a sync of the folder, or by none
abbrev pub PutsEntry : List ℕ → (old new : List Raw) → Bool → Type 0
PutsEntry folder old new true =
    SyncsOne folder old new true ⊎ (OnlyAsks old new × IsFolderSynced folder old)
PutsEntry folder old new false = SyncsOne folder old new false ⊎ OnlyAsks old new
