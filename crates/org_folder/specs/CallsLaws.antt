-- The laws of a disk, for one over the calls of a system.
use Rattle.std.specs.Prelude.{◌≡◌, ◌≢◌, ℕ, ◌≤◌, List, [], ◌∷◌, length, true, false, refl}
use Rattle.std.proofs.Common.{sym, subst, inl, inr, ⊎_elim, arith}
use Rattle.std.proofs.lemmas.Bool.{cases_Bool, cond-true, cond-false}
use Rattle.std.proofs.lemmas.Slice.Eq.{bytes_eq-Decides}
use Rattle.std.specs.Str.{bytes_eq}
use Rattle.org_disk.specs.Disk.{FileState, IsImage, AreImages, write, cut, sync}
use Rattle.org_disk.specs.OwnImages.{IsOwnImage, write_own, cut_own, sync_own}
use Rattle.org_folder.specs.Calls.{Event, World, files, changed, reading, AreRight, LeftSince}
use Rattle.org_folder.specs.Calls.Event.{Filled, Locked, Above, Alone, Entry, Listed, Folder, There, Led, Unseen, Absent, Length, Read, Write, Again, Cut, Sync, Made, MadeFolder, Entered, Failed}

-- a file that reads as one of its images
reading_keeps : (content : List ℕ) (file : FileState) → IsImage file content
    → IsOwnImage (reading content file)
reading_keeps content file image =
    record { no_shorter = image.no_shorter; no_longer = image.no_longer; fixed = λ i fixed. refl }

pub changed_here : (name : List ℕ) (effect : FileState → FileState)
    (old : List ℕ → FileState)
    → changed name effect old name ≡ effect (old name)
changed_here name effect old =
    cond-true (bytes_eq name name) (effect (old name)) (old name)
    ((bytes_eq-Decides name name).1 refl)

pub changed_other : (name : List ℕ) (effect : FileState → FileState)
    (old : List ℕ → FileState) (other : List ℕ)
    → other ≢ name → changed name effect old other ≡ old other
changed_other name effect old other apart =
    cond-false (bytes_eq name other) (effect (old other)) (old other)
    (⊎_elim (λ t. absurd (apart (sym ((bytes_eq-Decides name other).0 t)))) (λ f. f)
    (cases_Bool (bytes_eq name other)))

-- a call on one file
changed_keeps : (name : List ℕ) (effect : FileState → FileState) (old : List ℕ → FileState)
    → IsOwnImage (effect (old name))
    → ((other : List ℕ) → IsOwnImage (old other)) → (other : List ℕ)
    → IsOwnImage (changed name effect old other)
changed_keeps name effect old here own other = ⊎_elim
    (λ t. subst IsOwnImage
    (sym (cond-true (bytes_eq name other) (effect (old other)) (old other) t))
    (subst (λ n. IsOwnImage (effect (old n))) ((bytes_eq-Decides name other).0 t) here))
    (λ f. subst IsOwnImage
    (sym (cond-false (bytes_eq name other) (effect (old other)) (old other) f)) (own other))
    (cases_Bool (bytes_eq name other))

pub own_image : (world : World) (calls : List Event) → AreRight world calls → (name : List ℕ)
    → IsImage (files world calls name) (files world calls name).content
own_image world [] right name = right name
own_image world (Filled path ∷ earlier) right name = own_image world earlier right.1 name
own_image world (Locked path ∷ earlier) right name = own_image world earlier right.1 name
own_image world (Above store ∷ earlier) right name = own_image world earlier right.1 name
own_image world (Alone ∷ earlier) right name = own_image world earlier right.1 name
own_image world (Folder folder own ∷ earlier) right name = own_image world earlier right.1 name
own_image world (Entry n ∷ earlier) right name = own_image world earlier right.1 name
own_image world (Listed folder ok ∷ earlier) right name = own_image world earlier right.1 name
own_image world (There n device number plain link ∷ earlier) right name =
    own_image world earlier right.1 name
own_image world (Led n end ∷ earlier) right name = own_image world earlier right.1 name
own_image world (Unseen n ∷ earlier) right name = own_image world earlier right.1 name
own_image world (Made n ok ∷ earlier) right name = own_image world earlier right.1 name
own_image world (MadeFolder folder ok ∷ earlier) right name = own_image world earlier right.1 name
own_image world (Entered folder n ok ∷ earlier) right name = own_image world earlier right.1 name
own_image world (Absent n ∷ earlier) right name = own_image world earlier right.1 name
own_image world (Length n length ∷ earlier) right name = own_image world earlier right.1 name
own_image world (Read n from bytes ∷ earlier) right name = own_image world earlier right.1 name
own_image world (Again n from bytes ok ∷ earlier) right name = own_image world earlier right.1 name
own_image world (Failed n ∷ earlier) right name = own_image world earlier right.1 name
own_image world (Write n from bytes true ∷ earlier) right name =
    changed_keeps n (write from bytes) (files world earlier)
    (write_own from bytes (files world earlier n) (own_image world earlier right.1 n))
    (own_image world earlier right.1) name
own_image world (Write n from bytes false ∷ earlier) right name =
    let left = world.left (Write n from bytes false ∷ earlier) in
    changed_keeps n (λ file. reading left (write from bytes file)) (files world earlier)
    (reading_keeps left (write from bytes (files world earlier n)) right.0)
    (own_image world earlier right.1) name
own_image world (Cut n to true ∷ earlier) right name =
    changed_keeps n (cut to) (files world earlier)
    (cut_own to (files world earlier n) (own_image world earlier right.1 n))
    (own_image world earlier right.1) name
own_image world (Cut n to false ∷ earlier) right name =
    let left = world.left (Cut n to false ∷ earlier) in
    changed_keeps n (λ file. reading left (cut to file)) (files world earlier)
    (reading_keeps left (cut to (files world earlier n)) right.0)
    (own_image world earlier right.1) name
own_image world (Sync n true ∷ earlier) right name =
    changed_keeps n sync (files world earlier) (sync_own (files world earlier n))
    (own_image world earlier right.1) name
own_image world (Sync n false ∷ earlier) right name =
    let left = world.left (Sync n false ∷ earlier) in
    changed_keeps n (reading left) (files world earlier)
    (reading_keeps left (files world earlier n) right.0) (own_image world earlier right.1) name

pub counts_now : (world : World) (calls : List Event) (t : ℕ) (image : List ℕ → List ℕ)
    → t ≤ length calls → AreImages (files world calls) image → LeftSince world calls t image
counts_now world [] t image le now = (le, now)
counts_now world (event ∷ earlier) t image le now = inl (omega (arith, le), now)

no_later : (world : World) (calls : List Event) (t : ℕ) (image : List ℕ → List ℕ)
    → LeftSince world calls t image → t ≤ length calls
no_later world [] t image left = left.0
no_later world (event ∷ earlier) t image (inl now) = omega (arith, now.0)
no_later world (event ∷ earlier) t image (inr past) =
    omega (arith, no_later world earlier t image past)

pub only_now : (world : World) (calls : List Event) (image : List ℕ → List ℕ)
    → LeftSince world calls (length calls) image → AreImages (files world calls) image
only_now world [] image left = left.1
only_now world (event ∷ earlier) image (inl now) = now.1
only_now world (event ∷ earlier) image (inr past) =
    absurd (omega (arith, no_later world earlier (length (event ∷ earlier)) image past))
