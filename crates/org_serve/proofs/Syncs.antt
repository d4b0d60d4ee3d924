-- Syncs of the files of a store, one after another, and what they make of a disk.
use Rattle.std.proofs.Common.{arith, true≢false, OnOk, IsErr, ◌≡◌, ◌⊎◌, inl, inr, ⊎_elim, ℕ, ◌+◌, ◌<◌, ◌≤◌, List, [], ◌∷◌, ◌++◌, length, take, get_or, true, Option, Some, None, Result, Ok, Err, refl, sym, ◌∙◌, ap, subst}
use Rattle.std.proofs.lemmas.Grind.{common_steps}
use Rattle.std.specs.Prelude.{IsSomeAnd, is_some, IsTrue}
use Rattle.std.specs.List.{Contains}
use Rattle.std.proofs.lemmas.List.{take_more}
use Rattle.std.proofs.lemmas.List.Elements.{Contains-push_cases}
use Rattle.org_disk.specs.Disk.{FileState, IsImage, IsStable, AreImages, Changes, sync}
use Rattle.org_disk.specs.Names.{journal_name}
use Rattle.org_disk.specs.OwnImages.{IsOwnImage}
use Rattle.org_disk.proofs.Images.{only_image, stable_is}
use Rattle.org_disk.proofs.Names.{name_cases}
use Rattle.org_journal.specs.Recovered.{Image, SameFiles, RecoversTo, IsRecoverable, OthersStable, recovered, contents}
use Rattle.org_fileset.specs.Names.{AreSorted, with_archives}
use Rattle.org_fileset.specs.Recovery.{EachRecovers, RecoversAsBefore}
use Rattle.org_fileset.proofs.Elements.{no_member, cons_cases, cons_here, cons_later}
use Rattle.org_fileset.proofs.Recovering.{stable_from_only, with_bytes, one_image, here_is}
use Rattle.org_serve.specs.Syncing.{AreSynced, IsNotStored, IsRecoverableOnceSynced, OutsideStable, RecoversAsRead, stored}

-- One sync after others

module _ (names : List (List ℕ)) (i : ℕ) (name : List ℕ) (within : i < length names) (is : name ≡ get_or names i name) where
  next_names : take (i + 1) names ≡ take i names ++ name ∷ []
  next_names = take_more names i name within ∙ ap (λ (n : List ℕ). take i names ++ n ∷ []) (sym is)

  pub stable_more : (mid new : List ℕ → FileState) → Changes sync name mid new (Ok tt) → ((n : List ℕ) → Contains (take i names) n → IsStable (mid n))
      → (n : List ℕ) → Contains (take (i + 1) names) n → IsStable (new n)
  stable_more mid new changes sofar n there = elim (name_cases n name) [
    | inl same ↦ subst IsStable (sym (ap new same.0 ∙ changes.ok)) (stable_is (mid name).content)
    | inr apart ↦ subst IsStable (sym (changes.others n apart.0))
        (sofar n (⊎_elim (λ early. early) (λ one. absurd (apart.0 (sym one))) (Contains-push_cases (take i names) name n (subst (λ (l : List (List ℕ)). Contains l n) next_names there))))
  ]

pub same_contents : (name : List ℕ) (mid new : List ℕ → FileState) → Changes sync name mid new (Ok tt) → contents new ≡ contents mid
same_contents name mid new changes = λ i n. each n i
  where
    each : (n : List ℕ) → contents new n ≡ contents mid n
    each n = elim (name_cases n name) [
      | inl same ↦ ap (λ (m : List ℕ). contents new m) same.0 ∙ ap (λ (f : FileState). f.content) changes.ok ∙ ap (λ (m : List ℕ). contents mid m) (sym same.0)
      | inr apart ↦ ap (λ (f : FileState). f.content) (changes.others n apart.0)
    ]

-- all of them
pub all_synced : (names : List (List ℕ)) (i : ℕ) (old new : List ℕ → FileState) → length names ≤ i → contents new ≡ contents old
    → ((n : List ℕ) → Contains (take i names) n → IsStable (new n)) → AreSynced names old new
all_synced names i old new all same stable = grind (arith, common_steps)

-- a name is among these or it isn't
pub among_cases : (names : List (List ℕ)) (name : List ℕ) → Contains names name ⊎ (Contains names name → ⊥)
among_cases [] name = inr (no_member name)
among_cases (first ∷ names) name = elim (name_cases first name) [
  | inl same ↦ inl (subst (Contains (first ∷ names)) same.0 (cons_here first names))
  | inr apart ↦ elim (among_cases names name) [
    | inl later ↦ inl (cons_later first names name later)
    | inr none ↦ inr (λ there. ⊎_elim apart.0 none (cons_cases first names name there))
  ]
]

-- a sync that failed
pub not_done : {A E : Type 0} (P : Type 0) (result : Result A E) → IsErr result → OnOk result P
not_done P (Ok done) failed = absurd (true≢false (sym failed))
not_done P (Err fault) failed = tt

-- the names of a store's files, in another order
pub syncs_of : (given names : List (List ℕ)) (old new : List ℕ → FileState) → AreSorted (stored given) names → AreSynced names old new → AreSynced (stored given) old new
syncs_of given names old new sorted synced = record { same = synced.same; stable = λ name there. synced.stable name ((sorted.members name).1 there) }

pub others_of : (given names : List (List ℕ)) (old new : List ℕ → FileState) → AreSorted (stored given) names → ((name : List ℕ) → (Contains names name → ⊥) → new name ≡ old name)
    → (name : List ℕ) → IsNotStored given name → new name ≡ old name
others_of given names old new sorted others name none = others name (λ there. none ((sorted.members name).0 there))

-- A disk of which a crash leaves nothing new

pub all_images : {old new : List ℕ → FileState} → ((name bytes : List ℕ) → IsImage (new name) bytes → IsImage (old name) bytes)
    → (image : Image) → AreImages new image → AreImages old image
all_images images image left name = images name (image name) (left name)

-- reported of each file by itself
pub each_image : {old new : List ℕ → FileState} → ((name : List ℕ) → IsImage (new name) (new name).content)
    → ((image : Image) → AreImages new image → AreImages old image) → (name bytes : List ℕ) → IsImage (new name) bytes → IsImage (old name) bytes
each_image {old} {new} own images name bytes image =
    subst (λ (b : List ℕ). IsImage (old name) b) (here_is new own name bytes) (images (with_bytes new name bytes) (one_image new own name bytes image) name)

module _ (old new : List ℕ → FileState) (own : (name : List ℕ) → IsImage (new name) (new name).content)
    (images : (name bytes : List ℕ) → IsImage (new name) bytes → IsImage (old name) bytes) where
  one_content : (name : List ℕ) → IsStable (old name) → (new name).content ≡ (old name).content
  one_content name stable = only_image stable (new name).content (images name (new name).content (own name))

  pub still_stable : (name : List ℕ) → IsStable (old name) → IsStable (new name)
  still_stable name stable = stable_from_only (new name) (own name) (λ bytes image. only_image stable bytes (images name bytes image) ∙ sym (one_content name stable))

  pub still_recoverable : IsRecoverable old → IsRecoverable new
  still_recoverable (inl stable) = inl (λ name not. still_stable name (stable name not))
  still_recoverable (inr over_record) = inr (record {
    entries = over_record.entries;
    opened = λ bytes image. over_record.opened bytes (images _ bytes image);
    found = λ bytes image. over_record.found bytes (images _ bytes image);
    others = λ name not none. still_stable name (over_record.others name not none);
    texts = over_record.texts;
    same = λ image left. over_record.same image (all_images images image left);
  })

  pub still_recovers : EachRecovers old → EachRecovers new
  still_recovers each image left = each image (all_images images image left)

  pub as_at_first : (image : Image) → RecoversAsBefore new image → RecoversAsBefore old image
  as_at_first image before = record { start = before.start; left = all_images images before.start before.left; texts = before.texts; recovered_then = before.recovered_then; recovers_now = before.recovers_now }

-- files that recover to the same
alike : (found : Option Image) (one other : Image) → IsSomeAnd found (λ files. SameFiles files one) → IsSomeAnd found (λ files. SameFiles files other) → SameFiles one other
alike None one other held also = absurd held
alike (Some files) one other held also = λ name not. sym (held name not) ∙ also name not

recovers_alike : (found : Option Image) (one other : Image) → SameFiles one other → IsSomeAnd found (λ files. SameFiles files one) → IsSomeAnd found (λ files. SameFiles files other)
recovers_alike None one other same held = absurd held
recovers_alike (Some files) one other same held = λ name not. held name not ∙ same name not

there : (found : Option Image) (P : Image → Type 0) → IsSomeAnd found P → is_some found ≡ true
there None P held = absurd held
there (Some files) P held = refl

-- The store's files were synced, and the disk is recoverable now: whatever a crash leaves recovers
-- to the same files.
module _ (old new : List ℕ → FileState) (own : (name : List ℕ) → IsImage (new name) (new name).content)
    (given : List (List ℕ)) (synced : AreSynced (stored given) old new) (others : (name : List ℕ) → IsNotStored given name → new name ≡ old name) (once : IsRecoverableOnceSynced given old) where
  pub now_recoverable : IsRecoverable new
  now_recoverable = once new (record { own = synced; others = others })

  all_stable : OthersStable new → (name : List ℕ) → IsStable (new name)
  all_stable stable name = elim (name_cases name journal_name) [
    | inl is ↦ subst (λ (n : List ℕ). IsStable (new n)) (sym is.0) (synced.stable journal_name (cons_here journal_name (with_archives given)))
    | inr apart ↦ stable name apart.0
  ]

  only_read : OthersStable new → (image : Image) → AreImages new image → image ≡ contents new
  only_read stable image left = λ i name. only_image (all_stable stable name) (image name) (left name) i

  one_recovery : (texts one other : Image) → AreImages new one → AreImages new other → RecoversTo texts one → RecoversTo texts other
  one_recovery texts one other left also held = go now_recoverable
    where
      go : IsRecoverable new → RecoversTo texts other
      go (inl stable) = subst (λ (f : Image). RecoversTo texts f) (only_read stable one left ∙ sym (only_read stable other also)) held
      go (inr over_record) = recovers_alike (recovered other) over_record.texts texts (alike (recovered one) over_record.texts texts (over_record.same one left) held) (over_record.same other also)

  pub now_recovers : IsTrue (is_some (recovered (contents old))) → EachRecovers new
  now_recovers stand image left = go (recovered (contents new)) refl (subst (λ (f : Image). IsTrue (is_some (recovered f))) (sym synced.same) stand)
    where
      go : (found : Option Image) → recovered (contents new) ≡ found → IsTrue (is_some found) → IsTrue (is_some (recovered image))
      go None is none = absurd (true≢false (sym none))
      go (Some found) is good =
          let read : RecoversTo found (contents new) = subst (λ (o : Option Image). IsSomeAnd o (λ files. SameFiles files found)) (sym is) (λ name not. refl) in
          there (recovered image) (λ files. SameFiles files found) (one_recovery found (contents new) image own left read)

  pub as_read : (image : Image) → RecoversAsBefore new image → RecoversAsRead old image
  as_read image before =
      read (recovered (contents old)) (subst (λ (f : Image). RecoversTo before.texts f) synced.same (one_recovery before.texts before.start (contents new) before.left own before.recovered_then))
    where
      read : (o : Option Image) → IsSomeAnd o (λ found. SameFiles found before.texts) → IsSomeAnd o (λ found. RecoversTo found image)
      read None held = absurd held
      read (Some found) held = recovers_alike (recovered image) before.texts found (λ name not. sym (held name not)) before.recovers_now

-- Which folders are recoverable then.

own_stable : {file : FileState} → IsStable file → IsOwnImage file
own_stable {file} is = record { no_shorter = omega (arith, is.least); no_longer = omega (arith, is.greatest); fixed = λ i fixed. refl }

pub outside_once_synced : (given : List (List ℕ)) (files : List ℕ → FileState) → OutsideStable given files → IsRecoverableOnceSynced given files
outside_once_synced given files outside synced is =
    inl (λ name not. ⊎_elim (is.own.stable name) (λ none. subst IsStable (sym (is.others name none)) (outside name none)) (among_cases (stored given) name))

pub still_once_synced : (given : List (List ℕ)) (files : List ℕ → FileState) → ((name : List ℕ) → IsOwnImage (files name)) → IsRecoverable files → IsRecoverableOnceSynced given files
still_once_synced given files own fit synced is =
    still_recoverable files synced
    (λ name. ⊎_elim (λ among. own_stable (is.own.stable name among)) (λ none. subst IsOwnImage (sym (is.others name none)) (own name)) (among_cases (stored given) name))
    (λ name bytes image. ⊎_elim
    (λ among. subst (IsImage (files name)) (sym (only_image (is.own.stable name among) bytes image ∙ ap (λ (f : Image). f name) is.own.same)) (own name))
    (λ none. subst (λ (file : FileState). IsImage file bytes) (is.others name none) image)
    (among_cases (stored given) name))
    fit

-- a disk whose files recover to something as they read
pub some_recovers : (files made : Image) → IsSomeAnd (recovered files) (SameFiles made) → IsTrue (is_some (recovered files))
some_recovers files made held = there (recovered files) (SameFiles made) held

-- or they don't
pub some_or_none : (files : Image) → IsTrue (is_some (recovered files)) ⊎ (recovered files ≡ None)
some_or_none files = cases (recovered files)
  where
    cases : (o : Option Image) → IsTrue (is_some o) ⊎ (o ≡ None)
    cases None = inr refl
    cases (Some found) = inl refl

pub ok_apart : {A E : Type 0} {x : A} {e : E} → ◌≡◌ {A = Result A E} (Ok x) (Err e) → ⊥
ok_apart is = cc is
