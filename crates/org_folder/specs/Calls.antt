-- The calls on the files of a folder: a record of what was asked and answered, and the files that
-- it stands for.
use Rattle.std.specs.Prelude.{◌≡◌, ◌≢◌, ◌⊎◌, ◌≤◌, ℕ, Bool, true, false, List, [], ◌∷◌, ◌++◌, ◌+◌, length, take, drop, if◌then◌else◌, ◌||◌, ◌&&◌, Option, None, Some, Result, OnOk, OnErr, ⊤, IsTrue, IsFalse}
use Rattle.std.specs.List.{list_any, All, Contains}
use Rattle.std.specs.Path.{path_parent}
use Rattle.org_disk.specs.Names.{folder_of, folders_on, last_part}
use Rattle.std.specs.Str.{bytes_eq}
use Rattle.org_disk.specs.Disk.{FileState, IsImage, AreImages, AreLeftBy, Changes, Passes, stable, write, cut, sync}
use Rattle.org_disk.specs.declared.disk.DiskFault.{DiskFault}

-- A call of the system, with its answer; a write, a cut, a sync and the sync of an entry also say
-- whether they succeeded. Up to `Unseen` it is a call on the folder, and then one on the file of a
-- name.
pub data Event : Type 0 where
  -- streams that are closed are the folder at this path
  Filled : List ℕ → Event
  -- the folder at this path is locked, as far as the system locks it
  Locked : List ℕ → Event
  -- the store of the folder at this path, the nearest above the one that was locked, would list a
  -- file in that
  Above : List ℕ → Event
  -- .. or there is none such
  Alone : Event
  -- the folder that is listed next has an entry of this name
  Entry : List ℕ → Event
  -- the folder at this path below the one that was locked, with a slash at its end, or that one
  -- itself, whose path is empty, has no entry but those since the last call of another kind; or it
  -- can't be read
  Listed : List ℕ → Bool → Event
  -- the folder at a path below the one that was locked, without a slash at its end, belongs to the
  -- store, or it doesn't: it is a folder itself, of the file system and the owner of the one that was
  -- locked, and has no entry `orgstore.journal`
  Folder : List ℕ → Bool → Event
  -- a name leads to the file of this device and number, which is a plain one or isn't; and a link
  -- stands there or doesn't
  There : List ℕ → ℕ → ℕ → Bool → Bool → Event
  -- the path of a name ends here, all links on it followed
  Led : List ℕ → List ℕ → Event
  -- a name can't be looked at
  Unseen : List ℕ → Event
  -- there is no such file
  Absent : List ℕ → Event
  Length : List ℕ → ℕ → Event
  -- these bytes were read from this place on
  Read : List ℕ → ℕ → List ℕ → Event
  Write : List ℕ → ℕ → List ℕ → Bool → Event
  -- bytes that stand in the file already were written over themselves, if the file may be written
  Again : List ℕ → ℕ → List ℕ → Bool → Event
  Cut : List ℕ → ℕ → Bool → Event
  Sync : List ℕ → Bool → Event
  -- the file of a name was opened, and made where there was none
  Made : List ℕ → Bool → Event
  -- the folder at this path, which has no slash at its end, was made
  MadeFolder : List ℕ → Bool → Event
  -- the folder at this path was synced, and with it the entry of a file's name, or of a folder's path
  Entered : List ℕ → List ℕ → Bool → Event
  -- Any other call on the file of a name failed: an answer is missing, or shows that the file isn't
  -- as these calls left it, or there is no memory to go on. So did one that was to put its entry on
  -- the device, after what is noted of that.
  Failed : List ℕ → Event

-- the names of the entries that were just listed, the last first
abbrev pub entries_in : List Event → List (List ℕ)
entries_in [] = []
entries_in (Entry name ∷ earlier) = name ∷ entries_in earlier
entries_in (Filled path ∷ earlier) = []
entries_in (Locked path ∷ earlier) = []
entries_in (Above store ∷ earlier) = []
entries_in (Alone ∷ earlier) = []
entries_in (Folder folder own ∷ earlier) = []
entries_in (Listed folder ok ∷ earlier) = []
entries_in (There name device number plain link ∷ earlier) = []
entries_in (Led name end ∷ earlier) = []
entries_in (Unseen name ∷ earlier) = []
entries_in (Absent name ∷ earlier) = []
entries_in (Length name n ∷ earlier) = []
entries_in (Read name from bytes ∷ earlier) = []
entries_in (Again name from bytes ok ∷ earlier) = []
entries_in (Write name from bytes ok ∷ earlier) = []
entries_in (Cut name n ok ∷ earlier) = []
entries_in (Sync name ok ∷ earlier) = []
entries_in (Made name ok ∷ earlier) = []
entries_in (MadeFolder folder ok ∷ earlier) = []
entries_in (Entered folder name ok ∷ earlier) = []
entries_in (Failed name ∷ earlier) = []

-- a record after entries of these names
abbrev pub with_entries : List (List ℕ) → List Event → List Event
with_entries [] earlier = earlier
with_entries (name ∷ names) earlier = with_entries names (Entry name ∷ earlier)

-- What no call shows: each file as it was at first, and, after a call that failed, what its file
-- reads as. A record has its newest call first.
pub record World : Type 0 where
  pub start : List ℕ → FileState
  pub left : List Event → List ℕ

-- a call on the file of one name
abbrev pub changed : List ℕ → (FileState → FileState) → (List ℕ → FileState)
    → List ℕ → FileState
changed name effect files other = if bytes_eq name other then effect (files other) else files other

-- a file after a call that failed: it may have gone any part of its way, and reads as this
abbrev pub reading : List ℕ → FileState → FileState
reading content file = record file { content = content }

-- the files after these calls
abbrev pub files : World → List Event → List ℕ → FileState
files world [] = world.start
files world (Filled path ∷ earlier) = files world earlier
files world (Locked path ∷ earlier) = files world earlier
files world (Above store ∷ earlier) = files world earlier
files world (Alone ∷ earlier) = files world earlier
files world (Folder folder own ∷ earlier) = files world earlier
files world (Entry name ∷ earlier) = files world earlier
files world (Listed folder ok ∷ earlier) = files world earlier
files world (There name device number plain link ∷ earlier) = files world earlier
files world (Led name end ∷ earlier) = files world earlier
files world (Unseen name ∷ earlier) = files world earlier
files world (Made name ok ∷ earlier) = files world earlier
files world (MadeFolder folder ok ∷ earlier) = files world earlier
files world (Entered folder name ok ∷ earlier) = files world earlier
files world (Absent name ∷ earlier) = files world earlier
files world (Length name n ∷ earlier) = files world earlier
files world (Read name from bytes ∷ earlier) = files world earlier
files world (Again name from bytes ok ∷ earlier) = files world earlier
files world (Failed name ∷ earlier) = files world earlier
files world (Write name from bytes true ∷ earlier) =
    changed name (write from bytes) (files world earlier)
files world (Write name from bytes false ∷ earlier) =
    changed name
    (λ file.
    reading (world.left (Write name from bytes false ∷ earlier)) (write from bytes file))
    (files world earlier)
files world (Cut name n true ∷ earlier) = changed name (cut n) (files world earlier)
files world (Cut name n false ∷ earlier) =
    changed name (λ file. reading (world.left (Cut name n false ∷ earlier)) (cut n file))
    (files world earlier)
files world (Sync name true ∷ earlier) = changed name sync (files world earlier)
files world (Sync name false ∷ earlier) =
    changed name (reading (world.left (Sync name false ∷ earlier))) (files world earlier)

-- The answer of a call is right after these calls: a look answers what they made of the file, and a
-- call that failed left what a crash within it may leave. A name without a file stands for the
-- empty file, after a crash too.
abbrev pub IsRight : World → Event → List Event → Type 0
IsRight world (Filled path) earlier = ⊤
IsRight world (Locked path) earlier = ⊤
IsRight world (Above store) earlier = ⊤
IsRight world Alone earlier = ⊤
IsRight world (Folder folder own) earlier = ⊤
IsRight world (Entry name) earlier = ⊤
IsRight world (There name device number plain link) earlier = ⊤
IsRight world (Led name end) earlier = ⊤
IsRight world (Unseen name) earlier = ⊤
IsRight world (Made name ok) earlier = ⊤
IsRight world (MadeFolder folder ok) earlier = ⊤
IsRight world (Entered folder name ok) earlier = ⊤
IsRight world (Listed folder ok) earlier = ⊤
IsRight world (Absent name) earlier = files world earlier name ≡ stable []
IsRight world (Length name n) earlier = n ≡ length (files world earlier name).content
IsRight world (Read name from bytes) earlier =
    bytes ≡ take (length bytes) (drop from (files world earlier name).content)
IsRight world (Again name from bytes ok) earlier = ⊤
IsRight world (Failed name) earlier = ⊤
IsRight world (Write name from bytes true) earlier = ⊤
IsRight world (Write name from bytes false) earlier =
    IsImage (write from bytes (files world earlier name))
    (world.left (Write name from bytes false ∷ earlier))
IsRight world (Cut name n true) earlier = ⊤
IsRight world (Cut name n false) earlier =
    IsImage (cut n (files world earlier name)) (world.left (Cut name n false ∷ earlier))
IsRight world (Sync name true) earlier = ⊤
IsRight world (Sync name false) earlier =
    IsImage (files world earlier name) (world.left (Sync name false ∷ earlier))

-- The list of a folder that ends these calls is right: a file of it that isn't among its entries
-- isn't there, after a crash either. It is no part of `IsRight`, since no answer about a file depends
-- on it.
abbrev pub IsRightList : World → List ℕ → List Event → Type 0
IsRightList world folder calls =
    (name : List ℕ) → folder_of name ≡ folder
    → IsFalse (list_any (bytes_eq (last_part name)) (entries_in calls))
    → files world calls name ≡ stable []

-- each answer was right, and each file reads at first as a crash may leave it
abbrev pub AreRight : World → List Event → Type 0
AreRight world [] = (name : List ℕ) → IsImage (world.start name) (world.start name).content
AreRight world (event ∷ earlier) = IsRight world event earlier × AreRight world earlier

-- where the answers were right: the place is no farther than the end of the file of a name
abbrev pub IsWithin : World → List Event → List ℕ → ℕ → Type 0
IsWithin world calls name n =
    AreRight world calls → n ≤ length (files world calls name).content

-- where the answers were right: these bytes stand in the file of a name from this place on
abbrev pub StandIn : World → List Event → List ℕ → ℕ → List ℕ → Type 0
StandIn world calls name from bytes =
    AreRight world calls
    → bytes ≡ take (length bytes) (drop from (files world calls name).content)

-- no write, cut or sync among these calls is on the file of this name
abbrev pub IsLeftAlone : List ℕ → List Event → Type 0
IsLeftAlone name [] = ⊤
IsLeftAlone name (Write other from bytes ok ∷ earlier) =
    (other ≢ name) × IsLeftAlone name earlier
IsLeftAlone name (Again other from bytes ok ∷ earlier) =
    (other ≢ name) × IsLeftAlone name earlier
IsLeftAlone name (Cut other n ok ∷ earlier) = (other ≢ name) × IsLeftAlone name earlier
IsLeftAlone name (Sync other ok ∷ earlier) = (other ≢ name) × IsLeftAlone name earlier
IsLeftAlone name (_ ∷ earlier) = IsLeftAlone name earlier

-- whether the entry of this name or path was put on the device: its own folder was synced
abbrev pub has_entered : List ℕ → List Event → Bool
has_entered name [] = false
has_entered name (Entered folder other true ∷ earlier) =
    bytes_eq other name || has_entered name earlier
has_entered name (_ ∷ earlier) = has_entered name earlier

-- the entries of a file, and of each folder that leads to it, were put on the device
pub record HasEntered (name : List ℕ) (calls : List Event) : Type 0 where
  pub file : IsTrue (has_entered name calls)
  pub folders : All (λ folder. IsTrue (has_entered folder calls)) (folders_on name)

-- whether a sync failed, of a file or of an entry
abbrev pub has_failed : List Event → Bool
has_failed [] = false
has_failed (Filled path ∷ earlier) = has_failed earlier
has_failed (Locked path ∷ earlier) = has_failed earlier
has_failed (Above store ∷ earlier) = has_failed earlier
has_failed (Alone ∷ earlier) = has_failed earlier
has_failed (Folder folder own ∷ earlier) = has_failed earlier
has_failed (Entry name ∷ earlier) = has_failed earlier
has_failed (Listed folder ok ∷ earlier) = has_failed earlier
has_failed (There name device number plain link ∷ earlier) = has_failed earlier
has_failed (Led name end ∷ earlier) = has_failed earlier
has_failed (Unseen name ∷ earlier) = has_failed earlier
has_failed (Made name ok ∷ earlier) = has_failed earlier
has_failed (MadeFolder folder ok ∷ earlier) = has_failed earlier
has_failed (Entered folder name true ∷ earlier) = has_failed earlier
has_failed (Entered folder name false ∷ earlier) = true
has_failed (Absent name ∷ earlier) = has_failed earlier
has_failed (Length name n ∷ earlier) = has_failed earlier
has_failed (Read name from bytes ∷ earlier) = has_failed earlier
has_failed (Again name from bytes ok ∷ earlier) = has_failed earlier
has_failed (Failed name ∷ earlier) = has_failed earlier
has_failed (Write name from bytes ok ∷ earlier) = has_failed earlier
has_failed (Cut name n ok ∷ earlier) = has_failed earlier
has_failed (Sync name true ∷ earlier) = has_failed earlier
has_failed (Sync name false ∷ earlier) = true

-- a count of failures after one more call
abbrev pub with_answer : Bool → ℕ → ℕ
with_answer true failures = failures
with_answer false failures = failures + 1

-- How many calls on the files failed. What is noted of a folder, or of an entry, is part of a call on
-- a file, which is noted after it.
abbrev pub failed_calls : List Event → ℕ
failed_calls [] = 0
failed_calls (Filled path ∷ earlier) = failed_calls earlier
failed_calls (Locked path ∷ earlier) = failed_calls earlier
failed_calls (Entry name ∷ earlier) = failed_calls earlier
failed_calls (Above store ∷ earlier) = failed_calls earlier
failed_calls (Alone ∷ earlier) = failed_calls earlier
failed_calls (Folder folder own ∷ earlier) = failed_calls earlier
failed_calls (Listed folder ok ∷ earlier) = failed_calls earlier
failed_calls (There name device number plain link ∷ earlier) = failed_calls earlier
failed_calls (Led name end ∷ earlier) = failed_calls earlier
failed_calls (Unseen name ∷ earlier) = failed_calls earlier
failed_calls (Absent name ∷ earlier) = failed_calls earlier
failed_calls (Length name n ∷ earlier) = failed_calls earlier
failed_calls (Read name from bytes ∷ earlier) = failed_calls earlier
failed_calls (Write name from bytes ok ∷ earlier) = with_answer ok (failed_calls earlier)
failed_calls (Again name from bytes ok ∷ earlier) = with_answer ok (failed_calls earlier)
failed_calls (Cut name n ok ∷ earlier) = with_answer ok (failed_calls earlier)
failed_calls (Sync name ok ∷ earlier) = with_answer ok (failed_calls earlier)
failed_calls (Made name ok ∷ earlier) = with_answer ok (failed_calls earlier)
failed_calls (MadeFolder folder ok ∷ earlier) = failed_calls earlier
failed_calls (Entered folder name ok ∷ earlier) = failed_calls earlier
failed_calls (Failed name ∷ earlier) = failed_calls earlier + 1

-- What a call makes of that count: one more where it answers a fault, and else the same.
pub record CountsCall {A : Type 0} (old new : List Event) (result : Result A DiskFault) : Type 0
  where
    pub kept : OnOk result (failed_calls new ≡ failed_calls old)
    pub counted : OnErr result (failed_calls new ≡ failed_calls old + 1)

-- whether a name was found without a file
abbrev pub was_absent : List ℕ → List Event → Bool
was_absent name [] = false
was_absent name (Absent other ∷ earlier) = bytes_eq other name || was_absent name earlier
was_absent name (_ ∷ earlier) = was_absent name earlier

abbrev pub HasAbsent : List ℕ → List Event → Type 0
HasAbsent name calls = IsTrue (was_absent name calls)

-- each of these names was found without a file
abbrev pub AreFoundAbsent : List Event → List (List ℕ) → Type 0
AreFoundAbsent calls names =
    (name : List ℕ) → IsTrue (list_any (bytes_eq name) names) → HasAbsent name calls

-- Each of these names was found without a file; and where the answers were right, it has none.
pub record AreAbsent (world : World) (calls : List Event) (names : List (List ℕ)) : Type 0 where
  pub looked : AreFoundAbsent calls names
  pub empty : AreRight world calls → (name : List ℕ) → IsTrue (list_any (bytes_eq name) names)
      → files world calls name ≡ stable []

-- whether streams that are closed were filled
abbrev pub is_filled : List Event → Bool
is_filled [] = false
is_filled (Filled path ∷ earlier) = true
is_filled (Locked path ∷ earlier) = is_filled earlier
is_filled (Above store ∷ earlier) = is_filled earlier
is_filled (Alone ∷ earlier) = is_filled earlier
is_filled (Folder folder own ∷ earlier) = is_filled earlier
is_filled (Entry name ∷ earlier) = is_filled earlier
is_filled (Listed folder ok ∷ earlier) = is_filled earlier
is_filled (There name device number plain link ∷ earlier) = is_filled earlier
is_filled (Led name end ∷ earlier) = is_filled earlier
is_filled (Unseen name ∷ earlier) = is_filled earlier
is_filled (Made name ok ∷ earlier) = is_filled earlier
is_filled (MadeFolder folder ok ∷ earlier) = is_filled earlier
is_filled (Entered folder name ok ∷ earlier) = is_filled earlier
is_filled (Absent name ∷ earlier) = is_filled earlier
is_filled (Length name n ∷ earlier) = is_filled earlier
is_filled (Read name from bytes ∷ earlier) = is_filled earlier
is_filled (Again name from bytes ok ∷ earlier) = is_filled earlier
is_filled (Failed name ∷ earlier) = is_filled earlier
is_filled (Write name from bytes ok ∷ earlier) = is_filled earlier
is_filled (Cut name n ok ∷ earlier) = is_filled earlier
is_filled (Sync name ok ∷ earlier) = is_filled earlier

-- Whether the folder was locked, as far as the system locks it. No call lets the lock go, and none
-- locks another folder then.
abbrev pub is_held : List Event → Bool
is_held [] = false
is_held (Filled path ∷ earlier) = is_held earlier
is_held (Above store ∷ earlier) = is_held earlier
is_held (Alone ∷ earlier) = is_held earlier
is_held (Folder folder own ∷ earlier) = is_held earlier
is_held (Locked path ∷ earlier) = true
is_held (Entry name ∷ earlier) = is_held earlier
is_held (Listed folder ok ∷ earlier) = is_held earlier
is_held (There name device number plain link ∷ earlier) = is_held earlier
is_held (Led name end ∷ earlier) = is_held earlier
is_held (Unseen name ∷ earlier) = is_held earlier
is_held (Made name ok ∷ earlier) = is_held earlier
is_held (MadeFolder folder ok ∷ earlier) = is_held earlier
is_held (Entered folder name ok ∷ earlier) = is_held earlier
is_held (Absent name ∷ earlier) = is_held earlier
is_held (Length name n ∷ earlier) = is_held earlier
is_held (Read name from bytes ∷ earlier) = is_held earlier
is_held (Again name from bytes ok ∷ earlier) = is_held earlier
is_held (Failed name ∷ earlier) = is_held earlier
is_held (Write name from bytes ok ∷ earlier) = is_held earlier
is_held (Cut name n ok ∷ earlier) = is_held earlier
is_held (Sync name ok ∷ earlier) = is_held earlier

abbrev pub IsHeld : List Event → Type 0
IsHeld calls = IsTrue (is_held calls)

-- a call that changes nothing
abbrev pub IsLook : Event → Type 0
IsLook (Filled path) = ⊤
IsLook (Locked path) = ⊤
IsLook (Above store) = ⊤
IsLook Alone = ⊤
IsLook (Folder folder own) = ⊤
IsLook (Entry name) = ⊤
IsLook (Listed folder ok) = ⊤
IsLook (There name device number plain link) = ⊤
IsLook (Led name end) = ⊤
IsLook (Unseen name) = ⊤
IsLook (Absent name) = ⊤
IsLook (Length name n) = ⊤
IsLook (Read name from bytes) = ⊤
IsLook (Again name from bytes ok) = ⊥
IsLook (Write name from bytes ok) = ⊥
IsLook (Cut name n ok) = ⊥
IsLook (Sync name ok) = ⊥
IsLook (Made name ok) = ⊥
IsLook (MadeFolder folder ok) = ⊥
IsLook (Entered folder name ok) = ⊥
IsLook (Failed name) = ⊥

-- the sync of the entry of one of these names or paths, or the look where it leads
abbrev pub IsEntryOf : List (List ℕ) → Event → Type 0
IsEntryOf names (Led name end) = Contains names name
IsEntryOf names (Entered folder name ok) = Contains names name
IsEntryOf names _ = ⊥

-- the making of one of these folders, or the sync of its entry
abbrev pub IsMakingOf : List (List ℕ) → Event → Type 0
IsMakingOf folders (MadeFolder folder ok) = Contains folders folder
IsMakingOf folders (Entered above folder ok) = Contains folders folder
IsMakingOf folders _ = ⊥

abbrev pub was_made : List ℕ → List Event → Bool
was_made folder [] = false
was_made folder (MadeFolder other ok ∷ earlier) = bytes_eq other folder || was_made folder earlier
was_made folder (_ ∷ earlier) = was_made folder earlier

-- each folder that these calls made has its entry on the device
abbrev pub AreEnteredWhereMade : List Event → Type 0
AreEnteredWhereMade calls =
    (folder : List ℕ) → IsTrue (was_made folder calls) → IsTrue (has_entered folder calls)

-- .. and had it there before the next one was made
abbrev pub AreMadeInTurn : List Event → Type 0
AreMadeInTurn [] = ⊤
AreMadeInTurn (MadeFolder folder ok ∷ earlier) =
    AreEnteredWhereMade earlier × AreMadeInTurn earlier
AreMadeInTurn (_ ∷ earlier) = AreMadeInTurn earlier

abbrev pub is_parent : Option (List ℕ) → List ℕ → Bool
is_parent None folder = false
is_parent (Some parent) folder = bytes_eq parent folder

-- whether the path of a name was found to end in this folder
abbrev pub is_led_into : List ℕ → List ℕ → List Event → Bool
is_led_into name folder [] = false
is_led_into name folder (Led other end ∷ earlier) =
    (bytes_eq other name && is_parent (path_parent end) folder)
    || is_led_into name folder earlier
is_led_into name folder (_ ∷ earlier) = is_led_into name folder earlier

-- The folder that the entry of a name or path stands in, by its path: the one that it leads through,
-- or the one in which it was found to end.
abbrev pub stands_in : List ℕ → List ℕ → List Event → Bool
stands_in name folder calls =
    bytes_eq folder (folder_of name) || is_led_into name folder calls

abbrev pub StandsIn : List ℕ → List ℕ → List Event → Type 0
StandsIn name folder calls = IsTrue (stands_in name folder calls)

-- The entries that were put on the device each stand in the folder that was synced for them.
abbrev pub are_own_folders : List Event → Bool
are_own_folders [] = true
are_own_folders (Entered folder name ok ∷ earlier) =
    stands_in name folder earlier && are_own_folders earlier
are_own_folders (_ ∷ earlier) = are_own_folders earlier

abbrev pub AreOwnFolders : List Event → Type 0
AreOwnFolders calls = IsTrue (are_own_folders calls)

-- no call was made since but such ones
pub record OnlyLooks (old new : List Event) : Type 0 where
  pub calls : List Event
  pub look : All IsLook calls
  pub after : new ≡ calls ++ old

-- no call was made since but the syncs of the entries of these names or paths, and looks where they
-- lead
pub record OnlyEntries (names : List (List ℕ)) (old new : List Event) : Type 0 where
  pub calls : List Event
  pub entries : All (IsEntryOf names) calls
  pub after : new ≡ calls ++ old

-- the entries of the folders on a way were put on the device, or not all
pub record EntersWay (way : List ℕ) (ok : Bool) (old new : List Event) : Type 0 where
  pub only : OnlyEntries (folders_on way) old new
  pub entered : IsTrue ok → All (λ folder. IsTrue (has_entered folder new)) (folders_on way)

-- the entries of a file and of the folders that lead to it were put on the device, or not all; no
-- other entry was
pub record EntersFile (name : List ℕ) (ok : Bool) (old new : List Event) : Type 0 where
  pub only : OnlyEntries (name ∷ folders_on name) old new
  pub entered : IsTrue ok → HasEntered name new

-- a record where a call on the file of a name is over, whose failure is noted
abbrev pub with_failure : List ℕ → Bool → List Event → List Event
with_failure name true calls = calls
with_failure name false calls = Failed name ∷ calls

-- .. and that this failed is noted last
pub record Enters (name : List ℕ) (ok : Bool) (old new : List Event) : Type 0 where
  pub before : List Event
  pub entries : EntersFile name ok old before
  pub after : new ≡ with_failure name ok before

-- some of these folders were made, and the entry of each put on the device before anything was made
-- in it, or not all of that; no other folder was made
pub record MakesFolders (paths : List (List ℕ)) (ok : Bool) (old new : List Event) : Type 0 where
  pub calls : List Event
  pub folders : All (IsMakingOf paths) calls
  pub after : new ≡ calls ++ old
  pub turn : AreMadeInTurn calls
  pub entered : IsTrue ok → AreEnteredWhereMade calls

-- a file was made, after folders that lead to it
pub record Makes (name : List ℕ) (ok : Bool) (old new : List Event) : Type 0 where
  pub before : List Event
  pub folders : MakesFolders (folders_on name) ok old before
  pub after : new ≡ Made name ok ∷ before

-- what a crash since the call of this number might have left
abbrev pub LeftSince : World → List Event → ℕ → (List ℕ → List ℕ) → Type 0
LeftSince world [] t image = (t ≤ 0) × AreImages (files world []) image
LeftSince world (event ∷ earlier) t image =
    ((t ≤ length (event ∷ earlier)) × AreImages (files world (event ∷ earlier)) image)
    ⊎ LeftSince world earlier t image

-- what a call that only looks does: the files are the same, and a crash leaves an image of them
pub record Looks (world : World) (old new : List Event) : Type 0 where
  pub same : files world new ≡ files world old
  pub time : Passes (length old) (length new) (LeftSince world old) (LeftSince world new)
      (AreImages (files world old))

-- what a call with this effect on the file of a name does
pub record Does (world : World) (effect : FileState → FileState) (name : List ℕ)
    (old new : List Event) (result : Result (Unit {0}) DiskFault) : Type 0 where
  pub changes : Changes effect name (files world old) (files world new) result
  pub time : Passes (length old) (length new) (LeftSince world old) (LeftSince world new)
      (AreLeftBy effect name (files world old))
