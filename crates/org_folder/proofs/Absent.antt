-- A file on which no call was made that changes it.
use Rattle.std.proofs.Common.{◌≡◌, ℕ, List, [], ◌∷◌, true, false, refl, sym, ◌∙◌}
use Rattle.org_disk.specs.Disk.{stable, write, cut, sync}
use Rattle.org_folder.specs.Calls.{Event, World, files, reading, IsLeftAlone, IsRight}
use Rattle.org_folder.specs.Calls.Event.{Filled, Locked, Above, Alone, Entry, Listed, Folder, There, Led, Unseen, Absent, Length, Read, Write, Again, Cut, Sync, Made, MadeFolder, Entered, Failed}
use Rattle.org_folder.specs.CallsLaws.{changed_other}

pub still_as_first : (world : World) (calls : List Event) (name : List ℕ) → IsLeftAlone name calls → files world calls name ≡ world.start name
still_as_first world [] name alone = refl
still_as_first world (Filled path ∷ earlier) name alone = still_as_first world earlier name alone
still_as_first world (Locked path ∷ earlier) name alone = still_as_first world earlier name alone
still_as_first world (Above store ∷ earlier) name alone = still_as_first world earlier name alone
still_as_first world (Alone ∷ earlier) name alone = still_as_first world earlier name alone
still_as_first world (Folder folder own ∷ earlier) name alone = still_as_first world earlier name alone
still_as_first world (Entry other ∷ earlier) name alone = still_as_first world earlier name alone
still_as_first world (Listed folder ok ∷ earlier) name alone = still_as_first world earlier name alone
still_as_first world (There other device number plain link ∷ earlier) name alone = still_as_first world earlier name alone
still_as_first world (Led other end ∷ earlier) name alone = still_as_first world earlier name alone
still_as_first world (Unseen other ∷ earlier) name alone = still_as_first world earlier name alone
still_as_first world (Made other ok ∷ earlier) name alone = still_as_first world earlier name alone
still_as_first world (MadeFolder folder ok ∷ earlier) name alone = still_as_first world earlier name alone
still_as_first world (Entered folder other ok ∷ earlier) name alone = still_as_first world earlier name alone
still_as_first world (Absent other ∷ earlier) name alone = still_as_first world earlier name alone
still_as_first world (Length other n ∷ earlier) name alone = still_as_first world earlier name alone
still_as_first world (Read other from bytes ∷ earlier) name alone = still_as_first world earlier name alone
still_as_first world (Again other from bytes ok ∷ earlier) name alone = still_as_first world earlier name alone.1
still_as_first world (Failed other ∷ earlier) name alone = still_as_first world earlier name alone
still_as_first world (Write other from bytes true ∷ earlier) name alone =
    changed_other other (write from bytes) (files world earlier) name (λ same. alone.0 (sym same)) ∙ still_as_first world earlier name alone.1
still_as_first world (Write other from bytes false ∷ earlier) name alone =
    changed_other other (λ file. reading (world.left (Write other from bytes false ∷ earlier)) (write from bytes file)) (files world earlier) name (λ same. alone.0 (sym same)) ∙ still_as_first world earlier name alone.1
still_as_first world (Cut other n true ∷ earlier) name alone =
    changed_other other (cut n) (files world earlier) name (λ same. alone.0 (sym same)) ∙ still_as_first world earlier name alone.1
still_as_first world (Cut other n false ∷ earlier) name alone =
    changed_other other (λ file. reading (world.left (Cut other n false ∷ earlier)) (cut n file)) (files world earlier) name (λ same. alone.0 (sym same)) ∙ still_as_first world earlier name alone.1
still_as_first world (Sync other true ∷ earlier) name alone =
    changed_other other sync (files world earlier) name (λ same. alone.0 (sym same)) ∙ still_as_first world earlier name alone.1
still_as_first world (Sync other false ∷ earlier) name alone =
    changed_other other (reading (world.left (Sync other false ∷ earlier))) (files world earlier) name (λ same. alone.0 (sym same)) ∙ still_as_first world earlier name alone.1

pub absent_right : (world : World) (calls : List Event) (name : List ℕ) → world.start name ≡ stable [] → IsLeftAlone name calls → IsRight world (Absent name) calls
absent_right world calls name empty alone = still_as_first world calls name alone ∙ empty
