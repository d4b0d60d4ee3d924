-- Files that no call wrote, cut or synced, taken as on the device at first.
use Rattle.std.proofs.Common.{◌≡◌, inl, inr, ⊎_elim, ℕ, Bool, List, [], ◌∷◌, length, take, drop, true, false, if◌then◌else◌, refl, sym, ap, ◌∙◌, subst}
use Rattle.std.proofs.lemmas.Bool.{cases_Bool, cond-true, cond-false}
use Rattle.std.specs.Str.{bytes_eq}
use Rattle.org_disk.specs.Disk.{FileState, IsImage, AreImages, stable, write, cut, sync}
use Rattle.org_disk.specs.OwnImages.{IsOwnImage, stable_own}
use Rattle.org_folder.specs.Calls.{Event, World, files, reading, AreRight, LeftSince}
use Rattle.org_folder.specs.Calls.Event.{Filled, Locked, Above, Alone, Entry, Listed, Folder, There, Led, Unseen, Absent, Length, Read, Write, Again, Cut, Sync, Made, MadeFolder, Entered, Failed}
use Rattle.org_folder.specs.Unwritten.{AreLeftAlone, with_first, with_stable}
use Rattle.org_folder.proofs.Absent.{still_as_first}

module _ (these : List ℕ → Bool) (world : World) where
  abbrev pub taken : World
  taken = with_stable these world

  -- the calls before the newest
  earlier_alone : (event : Event) (earlier : List Event) → AreLeftAlone these (event ∷ earlier) → AreLeftAlone these earlier
  earlier_alone (Filled path) earlier alone = alone
  earlier_alone (Locked path) earlier alone = alone
  earlier_alone (Above store) earlier alone = alone
  earlier_alone Alone earlier alone = alone
  earlier_alone (Folder folder own) earlier alone = alone
  earlier_alone (MadeFolder folder ok) earlier alone = alone
  earlier_alone (Entry other) earlier alone = alone
  earlier_alone (Listed folder ok) earlier alone = alone
  earlier_alone (There other device number plain link) earlier alone = alone
  earlier_alone (Led other end) earlier alone = alone
  earlier_alone (Unseen other) earlier alone = alone
  earlier_alone (Absent other) earlier alone = alone
  earlier_alone (Length other n) earlier alone = alone
  earlier_alone (Read other from bytes) earlier alone = alone
  earlier_alone (Again other from bytes ok) earlier alone = λ name is. (alone name is).1
  earlier_alone (Failed other) earlier alone = alone
  earlier_alone (Write other from bytes ok) earlier alone = λ name is. (alone name is).1
  earlier_alone (Cut other n ok) earlier alone = λ name is. (alone name is).1
  earlier_alone (Sync other ok) earlier alone = λ name is. (alone name is).1
  earlier_alone (Made other ok) earlier alone = alone
  earlier_alone (Entered folder other ok) earlier alone = alone

  -- another file, by the same calls
  changed_same : (other name : List ℕ) (effect : FileState → FileState) (one two : FileState) → one ≡ two → (if bytes_eq other name then effect one else one) ≡ (if bytes_eq other name then effect two else two)
  changed_same other name effect one two same = ap (λ (file : FileState). if bytes_eq other name then effect file else file) same

  others_same : (calls : List Event) (name : List ℕ) → these name ≡ false → files taken calls name ≡ files world calls name
  others_same [] name not = cond-false (these name) (stable (world.start name).content) (world.start name) not
  others_same (Filled path ∷ earlier) name not = others_same earlier name not
  others_same (Locked path ∷ earlier) name not = others_same earlier name not
  others_same (Above store ∷ earlier) name not = others_same earlier name not
  others_same (Alone ∷ earlier) name not = others_same earlier name not
  others_same (Folder folder own ∷ earlier) name not = others_same earlier name not
  others_same (MadeFolder folder ok ∷ earlier) name not = others_same earlier name not
  others_same (Entry other ∷ earlier) name not = others_same earlier name not
  others_same (Listed folder ok ∷ earlier) name not = others_same earlier name not
  others_same (There other device number plain link ∷ earlier) name not = others_same earlier name not
  others_same (Led other end ∷ earlier) name not = others_same earlier name not
  others_same (Unseen other ∷ earlier) name not = others_same earlier name not
  others_same (Absent other ∷ earlier) name not = others_same earlier name not
  others_same (Length other n ∷ earlier) name not = others_same earlier name not
  others_same (Read other from bytes ∷ earlier) name not = others_same earlier name not
  others_same (Again other from bytes ok ∷ earlier) name not = others_same earlier name not
  others_same (Failed other ∷ earlier) name not = others_same earlier name not
  others_same (Made other ok ∷ earlier) name not = others_same earlier name not
  others_same (Entered folder other ok ∷ earlier) name not = others_same earlier name not
  others_same (Write other from bytes true ∷ earlier) name not =
      changed_same other name (write from bytes) (files taken earlier name) (files world earlier name) (others_same earlier name not)
  others_same (Write other from bytes false ∷ earlier) name not =
      changed_same other name (λ file. reading (world.left (Write other from bytes false ∷ earlier)) (write from bytes file)) (files taken earlier name) (files world earlier name) (others_same earlier name not)
  others_same (Cut other n true ∷ earlier) name not = changed_same other name (cut n) (files taken earlier name) (files world earlier name) (others_same earlier name not)
  others_same (Cut other n false ∷ earlier) name not =
      changed_same other name (λ file. reading (world.left (Cut other n false ∷ earlier)) (cut n file)) (files taken earlier name) (files world earlier name) (others_same earlier name not)
  others_same (Sync other true ∷ earlier) name not = changed_same other name sync (files taken earlier name) (files world earlier name) (others_same earlier name not)
  others_same (Sync other false ∷ earlier) name not =
      changed_same other name (reading (world.left (Sync other false ∷ earlier))) (files taken earlier name) (files world earlier name) (others_same earlier name not)

  -- one of these files
  is_stable : (calls : List Event) (name : List ℕ) → AreLeftAlone these calls → these name ≡ true → files taken calls name ≡ stable (world.start name).content
  is_stable calls name alone is = still_as_first taken calls name (alone name is) ∙ cond-true (these name) (stable (world.start name).content) (world.start name) is

  same_content : (calls : List Event) (name : List ℕ) → AreLeftAlone these calls → (files world calls name).content ≡ (files taken calls name).content
  same_content calls name alone = ⊎_elim
      (λ is. ap (λ (file : FileState). file.content) (still_as_first world calls name (alone name is)) ∙ sym (ap (λ (file : FileState). file.content) (is_stable calls name alone is)))
      (λ not. sym (ap (λ (file : FileState). file.content) (others_same calls name not)))
      (cases_Bool (these name))

  -- a file that was called isn't one of these
  called : (name : List ℕ) → (these name ≡ true → name ≡ name → ⊥) → these name ≡ false
  called name apart = ⊎_elim (λ is. absurd (apart is refl)) (λ not. not) (cases_Bool (these name))

  pub still_right : (calls : List Event) → AreLeftAlone these calls → AreRight world calls → AreRight taken calls
  still_right [] alone right = λ name. ⊎_elim
      (λ is. subst IsOwnImage (sym (is_stable [] name alone is)) (stable_own (world.start name).content))
      (λ not. subst IsOwnImage (sym (others_same [] name not)) (right name))
      (cases_Bool (these name))
  still_right (Filled path ∷ earlier) alone right = (right.0, still_right earlier alone right.1)
  still_right (Locked path ∷ earlier) alone right = (right.0, still_right earlier alone right.1)
  still_right (Above store ∷ earlier) alone right = (right.0, still_right earlier alone right.1)
  still_right (Alone ∷ earlier) alone right = (right.0, still_right earlier alone right.1)
  still_right (Folder folder own ∷ earlier) alone right = (right.0, still_right earlier alone right.1)
  still_right (MadeFolder folder ok ∷ earlier) alone right = (right.0, still_right earlier alone right.1)
  still_right (Entry other ∷ earlier) alone right = (right.0, still_right earlier alone right.1)
  still_right (Listed folder ok ∷ earlier) alone right = (right.0, still_right earlier alone right.1)
  still_right (There other device number plain link ∷ earlier) alone right = (right.0, still_right earlier alone right.1)
  still_right (Led other end ∷ earlier) alone right = (right.0, still_right earlier alone right.1)
  still_right (Unseen other ∷ earlier) alone right = (right.0, still_right earlier alone right.1)
  still_right (Made other ok ∷ earlier) alone right = (right.0, still_right earlier alone right.1)
  still_right (Entered folder other ok ∷ earlier) alone right = (right.0, still_right earlier alone right.1)
  still_right (Absent name ∷ earlier) alone right = (absent, still_right earlier alone right.1)
    where
      absent : files taken earlier name ≡ stable []
      absent = ⊎_elim
          (λ is. is_stable earlier name alone is ∙ ap (λ (file : FileState). stable file.content) (sym (still_as_first world earlier name (alone name is)) ∙ right.0))
          (λ not. others_same earlier name not ∙ right.0)
          (cases_Bool (these name))
  still_right (Length name n ∷ earlier) alone right = (right.0 ∙ ap length (same_content earlier name alone), still_right earlier alone right.1)
  still_right (Read name from bytes ∷ earlier) alone right =
      (right.0 ∙ ap (λ (content : List ℕ). take (length bytes) (drop from content)) (same_content earlier name alone), still_right earlier alone right.1)
  still_right (Again name from bytes ok ∷ earlier) alone right = (right.0, still_right earlier (λ other is. (alone other is).1) right.1)
  still_right (Failed name ∷ earlier) alone right = (right.0, still_right earlier alone right.1)
  still_right (Write name from bytes true ∷ earlier) alone right = (right.0, still_right earlier (λ other is. (alone other is).1) right.1)
  still_right (Write name from bytes false ∷ earlier) alone right = (
    subst (λ (file : FileState). IsImage (write from bytes file) (world.left (Write name from bytes false ∷ earlier))) (sym (others_same earlier name (called name (λ is. (alone name is).0)))) right.0,
    still_right earlier (λ other is. (alone other is).1) right.1,
  )
  still_right (Cut name n true ∷ earlier) alone right = (right.0, still_right earlier (λ other is. (alone other is).1) right.1)
  still_right (Cut name n false ∷ earlier) alone right = (
    subst (λ (file : FileState). IsImage (cut n file) (world.left (Cut name n false ∷ earlier))) (sym (others_same earlier name (called name (λ is. (alone name is).0)))) right.0,
    still_right earlier (λ other is. (alone other is).1) right.1,
  )
  still_right (Sync name true ∷ earlier) alone right = (right.0, still_right earlier (λ other is. (alone other is).1) right.1)
  still_right (Sync name false ∷ earlier) alone right = (
    subst (λ (file : FileState). IsImage file (world.left (Sync name false ∷ earlier))) (sym (others_same earlier name (called name (λ is. (alone name is).0)))) right.0,
    still_right earlier (λ other is. (alone other is).1) right.1,
  )

  still_images : (calls : List Event) (image : List ℕ → List ℕ) → AreLeftAlone these calls → AreImages (files world calls) image → AreImages (files taken calls) (with_first these world image)
  still_images calls image alone left name = ⊎_elim
      (λ is. subst (IsImage (files taken calls name)) (sym (cond-true (these name) (world.start name).content (image name) is))
      (subst (λ (file : FileState). IsImage file (world.start name).content) (sym (is_stable calls name alone is)) (stable_own (world.start name).content)))
      (λ not. subst (IsImage (files taken calls name)) (sym (cond-false (these name) (world.start name).content (image name) not))
      (subst (λ (file : FileState). IsImage file (image name)) (sym (others_same calls name not)) (left name)))
      (cases_Bool (these name))

  pub still_left : (calls : List Event) (t : ℕ) (image : List ℕ → List ℕ) → AreLeftAlone these calls → LeftSince world calls t image → LeftSince taken calls t (with_first these world image)
  still_left [] t image alone left = (left.0, still_images [] image alone left.1)
  still_left (event ∷ earlier) t image alone (inl now) = inl (now.0, still_images (event ∷ earlier) image alone now.1)
  still_left (event ∷ earlier) t image alone (inr past) = inr (still_left earlier t image (earlier_alone event earlier alone) past)
