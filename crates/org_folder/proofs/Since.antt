-- Calls that make folders and put entries on the device, one after another: no file is changed, and
-- what was found and entered before is so still.
use Rattle.std.proofs.Common.{◌≡◌, ◌≢◌, ◌∙◌, ap, ℕ, Bool, true, false, List, [], ◌∷◌, ◌++◌, length, take, get_or, IsTrue, IsFalse, IsErr, OnErr, OnOk, Result, Ok, Err, is_ok, ◌≤◌, ◌<◌, ◌+◌, refl, sym, subst, inl, inr, ⊎_elim, arith}
use Rattle.std.proofs.lemmas.Bool.{eq-eqb, ne_eqb, or_cases, or_left, or_right}
use Rattle.std.proofs.lemmas.List.{append_assoc, take_all}
use Rattle.std.proofs.lemmas.List.Elements.{All-append, All-cons, All-head, All-nil, All-tail, All-weaker, Contains-append_right, Contains-push_cases}
use Rattle.std.specs.Prelude.{⊤, ◌⊎◌}
use Rattle.std.specs.List.{All, Contains, list_any}
use Rattle.std.specs.Str.{bytes_eq}
use Rattle.org_disk.specs.Disk.{FileState, AreImages, Passes, stable}
use Rattle.std.proofs.lemmas.Slice.Eq.{bytes_eq-Decides}
use Rattle.org_disk.specs.Names.{folder_of, folders_on, is_slash}
use Rattle.org_disk.specs.declared.disk.DiskFault.{DiskFault}
use Rattle.org_disk.proofs.Folders.{folders_to_more, same_folders}
use Rattle.org_disk.proofs.Moments.{Image, passes_none, passes_then}
use Rattle.org_folder.specs.Calls.{CountsCall, Event, World, failed_calls, files, has_entered, was_absent, was_made, AreAbsent, AreEnteredWhereMade, AreMadeInTurn, AreFoundAbsent, AreRight, Enters, EntersFile, EntersWay, HasAbsent, HasEntered, IsEntryOf, IsMakingOf, IsHeld, LeftSince, Looks, Makes, MakesFolders, OnlyEntries, with_answer, with_failure}
use Rattle.org_folder.specs.Calls.Event.{Filled, Locked, Above, Alone, Entry, Listed, Folder, There, Led, Unseen, Absent, Length, Read, Write, Again, Cut, Sync, Made, MadeFolder, Entered, Failed}
use Rattle.org_folder.specs.Right.{AreEntered}
use Rattle.org_folder.specs.declared.system.Opened.{Opened}
use Rattle.org_folder.proofs.Looked.{held_after}

-- no write, cut or sync of a file
abbrev pub IsStill : Event → Type 0
IsStill (Filled path) = ⊤
IsStill (Locked path) = ⊤
IsStill (Above store) = ⊤
IsStill Alone = ⊤
IsStill (Entry other) = ⊤
IsStill (Listed folder ok) = ⊤
IsStill (Folder folder own) = ⊤
IsStill (There other device number plain link) = ⊤
IsStill (Led other end) = ⊤
IsStill (Unseen other) = ⊤
IsStill (Absent other) = ⊤
IsStill (Length other n) = ⊤
IsStill (Read other from bytes) = ⊤
IsStill (Again other from bytes ok) = ⊤
IsStill (Write other from bytes ok) = ⊥
IsStill (Cut other n ok) = ⊥
IsStill (Sync other ok) = ⊥
IsStill (Made other ok) = ⊤
IsStill (MadeFolder folder ok) = ⊤
IsStill (Entered folder other ok) = ⊤
IsStill (Failed other) = ⊤

of_entry : (names : List (List ℕ)) (event : Event) → IsEntryOf names event → IsStill event
of_entry names (Filled path) is = absurd is
of_entry names (Locked path) is = absurd is
of_entry names (Above store) is = absurd is
of_entry names Alone is = absurd is
of_entry names (Entry other) is = absurd is
of_entry names (Listed folder ok) is = absurd is
of_entry names (Folder folder own) is = absurd is
of_entry names (There other device number plain link) is = absurd is
of_entry names (Led other end) is = tt
of_entry names (Unseen other) is = absurd is
of_entry names (Absent other) is = absurd is
of_entry names (Length other n) is = absurd is
of_entry names (Read other from bytes) is = absurd is
of_entry names (Again other from bytes ok) is = absurd is
of_entry names (Write other from bytes ok) is = absurd is
of_entry names (Cut other n ok) is = absurd is
of_entry names (Sync other ok) is = absurd is
of_entry names (Made other ok) is = absurd is
of_entry names (MadeFolder folder ok) is = absurd is
of_entry names (Entered folder other ok) is = tt
of_entry names (Failed other) is = absurd is

of_folder : (paths : List (List ℕ)) (event : Event) → IsMakingOf paths event → IsStill event
of_folder paths (Filled path) is = absurd is
of_folder paths (Locked path) is = absurd is
of_folder paths (Above store) is = absurd is
of_folder paths Alone is = absurd is
of_folder paths (Entry other) is = absurd is
of_folder paths (Listed folder ok) is = absurd is
of_folder paths (Folder folder own) is = absurd is
of_folder paths (There other device number plain link) is = absurd is
of_folder paths (Led other end) is = absurd is
of_folder paths (Unseen other) is = absurd is
of_folder paths (Absent other) is = absurd is
of_folder paths (Length other n) is = absurd is
of_folder paths (Read other from bytes) is = absurd is
of_folder paths (Again other from bytes ok) is = absurd is
of_folder paths (Write other from bytes ok) is = absurd is
of_folder paths (Cut other n ok) is = absurd is
of_folder paths (Sync other ok) is = absurd is
of_folder paths (Made other ok) is = absurd is
of_folder paths (MadeFolder folder ok) is = tt
of_folder paths (Entered folder other ok) is = tt
of_folder paths (Failed other) is = absurd is

module _ (world : World) where
  still_files : (event : Event) (old : List Event) → IsStill event → files world (event ∷ old) ≡ files world old
  still_files (Filled path) old is = refl
  still_files (Locked path) old is = refl
  still_files (Above store) old is = refl
  still_files Alone old is = refl
  still_files (Entry other) old is = refl
  still_files (Listed folder ok) old is = refl
  still_files (Folder folder own) old is = refl
  still_files (There other device number plain link) old is = refl
  still_files (Led other end) old is = refl
  still_files (Unseen other) old is = refl
  still_files (Absent other) old is = refl
  still_files (Length other n) old is = refl
  still_files (Read other from bytes) old is = refl
  still_files (Again other from bytes ok) old is = refl
  still_files (Write other from bytes ok) old is = absurd is
  still_files (Cut other n ok) old is = absurd is
  still_files (Sync other ok) old is = absurd is
  still_files (Made other ok) old is = refl
  still_files (MadeFolder folder ok) old is = refl
  still_files (Entered folder other ok) old is = refl
  still_files (Failed other) old is = refl

  one_looks : (event : Event) (old : List Event) → IsStill event → Looks world old (event ∷ old)
  one_looks event old is = record {
    same = still_files event old is;
    time = record {
      later = omega arith;
      nothing_else = λ t image le left. ⊎_elim (λ now. inr (subst (λ (fs : List ℕ → FileState). AreImages fs image) (still_files event old is) now.1)) (λ past. inl past) left;
      keeps = λ t image le past. inr past;
    };
  }

  no_looks : (old : List Event) → Looks world old old
  no_looks old = record { same = refl; time = passes_none (length old) (LeftSince world old) (AreImages (files world old)) }

  looks_then : (old mid new : List Event) → Looks world old mid → Looks world mid new → Looks world old new
  looks_then old mid new first second = record {
    same = second.same ∙ first.same;
    time = passes_then first.time second.time (λ image now. subst (λ (fs : List ℕ → FileState). AreImages fs image) first.same now);
  }

  run_looks : (calls old : List Event) → All IsStill calls → Looks world old (calls ++ old)
  run_looks [] old are = no_looks old
  run_looks (event ∷ calls) old are =
      looks_then old (calls ++ old) (event ∷ (calls ++ old)) (run_looks calls old (All-tail IsStill event calls are)) (one_looks event (calls ++ old) (All-head IsStill event calls are))

  run_right : (calls old : List Event) → AreRight world (calls ++ old) → AreRight world old
  run_right [] old right = right
  run_right (event ∷ calls) old right = run_right calls old right.1

  pub entries_look : (names : List (List ℕ)) (old new : List Event) → OnlyEntries names old new → AreRight world new → AreRight world old × Looks world old new
  entries_look names old new only right =
      let after = sym only.after in (
        run_right only.calls old (subst (AreRight world) only.after right),
        subst (Looks world old) after (run_looks only.calls old (All-weaker (IsEntryOf names) IsStill (of_entry names) only.calls only.entries)),
      )

  pub folders_look : (paths : List (List ℕ)) (ok : Bool) (old new : List Event) → MakesFolders paths ok old new → AreRight world new → AreRight world old × Looks world old new
  folders_look paths ok old new makes right =
      let after = sym makes.after in (
        run_right makes.calls old (subst (AreRight world) makes.after right),
        subst (Looks world old) after (run_looks makes.calls old (All-weaker (IsMakingOf paths) IsStill (of_folder paths) makes.calls makes.folders)),
      )

  pub made_looks : (name : List ℕ) (ok : Bool) (old new : List Event) → Makes name ok old new → AreRight world new → AreRight world old × Looks world old new
  made_looks name ok old new makes right =
      let at_last : AreRight world (Made name ok ∷ makes.before) = subst (AreRight world) makes.after right in
      let first = folders_look (folders_on name) ok old makes.before makes.folders at_last.1 in
      (first.0, subst (Looks world old) (sym makes.after) (looks_then old makes.before (Made name ok ∷ makes.before) first.1 (one_looks (Made name ok) makes.before tt)))

absent_by : (name : List ℕ) (event : Event) (old : List Event) → IsTrue (was_absent name old) → IsTrue (was_absent name (event ∷ old))
absent_by name (Filled path) old is = is
absent_by name (Locked path) old is = is
absent_by name (Above store) old is = is
absent_by name Alone old is = is
absent_by name (Entry other) old is = is
absent_by name (Listed folder ok) old is = is
absent_by name (Folder folder own) old is = is
absent_by name (There other device number plain link) old is = is
absent_by name (Led other end) old is = is
absent_by name (Unseen other) old is = is
absent_by name (Absent other) old is = or_right _ _ is
absent_by name (Length other n) old is = is
absent_by name (Read other from bytes) old is = is
absent_by name (Again other from bytes ok) old is = is
absent_by name (Write other from bytes ok) old is = is
absent_by name (Cut other n ok) old is = is
absent_by name (Sync other ok) old is = is
absent_by name (Made other ok) old is = is
absent_by name (MadeFolder folder ok) old is = is
absent_by name (Entered folder other ok) old is = is
absent_by name (Failed other) old is = is

absent_after : (name : List ℕ) (calls old : List Event) → HasAbsent name old → HasAbsent name (calls ++ old)
absent_after name [] old is = is
absent_after name (event ∷ calls) old is = absent_by name event (calls ++ old) (absent_after name calls old is)

entered_by : (name : List ℕ) (event : Event) (old : List Event) → IsTrue (has_entered name old) → IsTrue (has_entered name (event ∷ old))
entered_by name (Filled path) old is = is
entered_by name (Locked path) old is = is
entered_by name (Above store) old is = is
entered_by name Alone old is = is
entered_by name (Entry other) old is = is
entered_by name (Listed folder ok) old is = is
entered_by name (Folder folder own) old is = is
entered_by name (There other device number plain link) old is = is
entered_by name (Led other end) old is = is
entered_by name (Unseen other) old is = is
entered_by name (Absent other) old is = is
entered_by name (Length other n) old is = is
entered_by name (Read other from bytes) old is = is
entered_by name (Again other from bytes ok) old is = is
entered_by name (Write other from bytes ok) old is = is
entered_by name (Cut other n ok) old is = is
entered_by name (Sync other ok) old is = is
entered_by name (Made other ok) old is = is
entered_by name (MadeFolder folder ok) old is = is
entered_by name (Entered folder other true) old is = or_right _ _ is
entered_by name (Entered folder other false) old is = is
entered_by name (Failed other) old is = is

pub entered_after : (name : List ℕ) (calls old : List Event) → IsTrue (has_entered name old) → IsTrue (has_entered name (calls ++ old))
entered_after name [] old is = is
entered_after name (event ∷ calls) old is = entered_by name event (calls ++ old) (entered_after name calls old is)

reached_after : (name : List ℕ) (calls old : List Event) → HasEntered name old → HasEntered name (calls ++ old)
reached_after name calls old is = record {
  file = entered_after name calls old is.file;
  folders = All-weaker (λ folder. IsTrue (has_entered folder old)) (λ folder. IsTrue (has_entered folder (calls ++ old))) (λ folder. entered_after folder calls old) (folders_on name) is.folders;
}

-- the calls of an entry, and of a file that is made
pub entries_absent : (name : List ℕ) (names : List (List ℕ)) (old new : List Event) → OnlyEntries names old new → HasAbsent name old → HasAbsent name new
entries_absent name names old new only is = subst (HasAbsent name) (sym only.after) (absent_after name only.calls old is)

pub entries_entered : (name : List ℕ) (names : List (List ℕ)) (old new : List Event) → OnlyEntries names old new → HasEntered name old → HasEntered name new
entries_entered name names old new only is = subst (HasEntered name) (sym only.after) (reached_after name only.calls old is)

pub entries_held : (names : List (List ℕ)) (old new : List Event) → OnlyEntries names old new → IsHeld old → IsHeld new
entries_held names old new only is = subst IsHeld (sym only.after) (held_after only.calls old is)

made_since : (name : List ℕ) (ok : Bool) (old new : List Event) → (makes : Makes name ok old new) → new ≡ (Made name ok ∷ makes.folders.calls) ++ old
made_since name ok old new makes = makes.after ∙ ap (λ l. Made name ok ∷ l) makes.folders.after

pub made_absent : (name : List ℕ) (ok : Bool) (old new : List Event) → Makes name ok old new → (other : List ℕ) → HasAbsent other old → HasAbsent other new
made_absent name ok old new makes other is = subst (HasAbsent other) (sym (made_since name ok old new makes)) (absent_after other (Made name ok ∷ makes.folders.calls) old is)

pub made_entered : (name : List ℕ) (ok : Bool) (old new : List Event) → Makes name ok old new → (other : List ℕ) → HasEntered other old → HasEntered other new
made_entered name ok old new makes other is = subst (HasEntered other) (sym (made_since name ok old new makes)) (reached_after other (Made name ok ∷ makes.folders.calls) old is)

pub made_held : (name : List ℕ) (ok : Bool) (old new : List Event) → Makes name ok old new → IsHeld old → IsHeld new
made_held name ok old new makes is = subst IsHeld (sym (made_since name ok old new makes)) (held_after (Made name ok ∷ makes.folders.calls) old is)

-- names that were found without a file, after a file was made
pub made_none : (world : World) (name : List ℕ) (ok : Bool) (old new : List Event) → Makes name ok old new → (names : List (List ℕ)) → AreAbsent world old names → AreAbsent world new names
made_none world name ok old new makes names are = record {
  looked = λ other among. made_absent name ok old new makes other (are.looked other among);
  empty = λ right other among.
      let looks = made_looks world name ok old new makes right in
      ap (λ (fs : List ℕ → FileState). fs other) looks.1.same ∙ are.empty looks.0 other among;
}

-- more of them
pub no_entries : (names : List (List ℕ)) (old : List Event) → OnlyEntries names old old
no_entries names old = record { calls = []; entries = All-nil (IsEntryOf names); after = refl }

pub entries_then : (names : List (List ℕ)) (old mid new : List Event) → OnlyEntries names old mid → OnlyEntries names mid new → OnlyEntries names old new
entries_then names old mid new first second = record {
  calls = second.calls ++ first.calls;
  entries = All-append (IsEntryOf names) _ _ second.entries first.entries;
  after = second.after ∙ ap (λ l. second.calls ++ l) first.after ∙ sym (append_assoc second.calls first.calls old);
}

pub one_entry : (names : List (List ℕ)) (event : Event) (old new : List Event) → IsEntryOf names event → new ≡ event ∷ old → OnlyEntries names old new
one_entry names event old new is noted = record { calls = event ∷ []; entries = All-cons (IsEntryOf names) event [] is (All-nil (IsEntryOf names)); after = noted }

-- .. of more names
entry_among : (names more : List (List ℕ)) → ((name : List ℕ) → Contains names name → Contains more name) → (event : Event) → IsEntryOf names event → IsEntryOf more event
entry_among names more each (Filled path) is = absurd is
entry_among names more each (Locked path) is = absurd is
entry_among names more each (Above store) is = absurd is
entry_among names more each Alone is = absurd is
entry_among names more each (Entry other) is = absurd is
entry_among names more each (Listed folder ok) is = absurd is
entry_among names more each (Folder folder own) is = absurd is
entry_among names more each (There other device number plain link) is = absurd is
entry_among names more each (Led other end) is = each other is
entry_among names more each (Unseen other) is = absurd is
entry_among names more each (Absent other) is = absurd is
entry_among names more each (Length other n) is = absurd is
entry_among names more each (Read other from bytes) is = absurd is
entry_among names more each (Again other from bytes ok) is = absurd is
entry_among names more each (Write other from bytes ok) is = absurd is
entry_among names more each (Cut other n ok) is = absurd is
entry_among names more each (Sync other ok) is = absurd is
entry_among names more each (Made other ok) is = absurd is
entry_among names more each (MadeFolder folder ok) is = absurd is
entry_among names more each (Entered folder other ok) is = each other is
entry_among names more each (Failed other) is = absurd is

pub entries_among : (names more : List (List ℕ)) (old new : List Event) → ((name : List ℕ) → Contains names name → Contains more name) → OnlyEntries names old new → OnlyEntries more old new
entries_among names more old new each only = record {
  calls = only.calls;
  entries = All-weaker (IsEntryOf names) (IsEntryOf more) (entry_among names more each) only.calls only.entries;
  after = only.after;
}

-- folders made, one after another
-- what was made by one run or the other
made_apart : (folder : List ℕ) (calls old : List Event) → IsTrue (was_made folder (calls ++ old)) → IsTrue (was_made folder calls) ⊎ IsTrue (was_made folder old)
made_apart folder [] old is = inr is
made_apart folder (Filled path ∷ calls) old is = made_apart folder calls old is
made_apart folder (Locked path ∷ calls) old is = made_apart folder calls old is
made_apart folder (Above store ∷ calls) old is = made_apart folder calls old is
made_apart folder (Alone ∷ calls) old is = made_apart folder calls old is
made_apart folder (Entry other ∷ calls) old is = made_apart folder calls old is
made_apart folder (Listed at ok ∷ calls) old is = made_apart folder calls old is
made_apart folder (Folder at own ∷ calls) old is = made_apart folder calls old is
made_apart folder (There other device number plain link ∷ calls) old is = made_apart folder calls old is
made_apart folder (Led other end ∷ calls) old is = made_apart folder calls old is
made_apart folder (Unseen other ∷ calls) old is = made_apart folder calls old is
made_apart folder (Absent other ∷ calls) old is = made_apart folder calls old is
made_apart folder (Length other n ∷ calls) old is = made_apart folder calls old is
made_apart folder (Read other from bytes ∷ calls) old is = made_apart folder calls old is
made_apart folder (Again other from bytes ok ∷ calls) old is = made_apart folder calls old is
made_apart folder (Write other from bytes ok ∷ calls) old is = made_apart folder calls old is
made_apart folder (Cut other n ok ∷ calls) old is = made_apart folder calls old is
made_apart folder (Sync other ok ∷ calls) old is = made_apart folder calls old is
made_apart folder (Made other ok ∷ calls) old is = made_apart folder calls old is
made_apart folder (MadeFolder at ok ∷ calls) old is = ⊎_elim (λ here. inl (or_left _ _ here)) (λ later. ⊎_elim (λ left. inl (or_right _ _ left)) (λ right. inr right) (made_apart folder calls old later)) (or_cases (bytes_eq at folder) (was_made folder (calls ++ old)) is)
made_apart folder (Entered at other ok ∷ calls) old is = made_apart folder calls old is
made_apart folder (Failed other ∷ calls) old is = made_apart folder calls old is

entered_front : (name : List ℕ) (calls old : List Event) → IsTrue (has_entered name calls) → IsTrue (has_entered name (calls ++ old))
entered_front name [] old is = let bad : false ≡ true = is in cc
entered_front name (Filled path ∷ calls) old is = entered_front name calls old is
entered_front name (Locked path ∷ calls) old is = entered_front name calls old is
entered_front name (Above store ∷ calls) old is = entered_front name calls old is
entered_front name (Alone ∷ calls) old is = entered_front name calls old is
entered_front name (Entry other ∷ calls) old is = entered_front name calls old is
entered_front name (Listed folder ok ∷ calls) old is = entered_front name calls old is
entered_front name (Folder folder own ∷ calls) old is = entered_front name calls old is
entered_front name (There other device number plain link ∷ calls) old is = entered_front name calls old is
entered_front name (Led other end ∷ calls) old is = entered_front name calls old is
entered_front name (Unseen other ∷ calls) old is = entered_front name calls old is
entered_front name (Absent other ∷ calls) old is = entered_front name calls old is
entered_front name (Length other n ∷ calls) old is = entered_front name calls old is
entered_front name (Read other from bytes ∷ calls) old is = entered_front name calls old is
entered_front name (Again other from bytes ok ∷ calls) old is = entered_front name calls old is
entered_front name (Write other from bytes ok ∷ calls) old is = entered_front name calls old is
entered_front name (Cut other n ok ∷ calls) old is = entered_front name calls old is
entered_front name (Sync other ok ∷ calls) old is = entered_front name calls old is
entered_front name (Made other ok ∷ calls) old is = entered_front name calls old is
entered_front name (MadeFolder folder ok ∷ calls) old is = entered_front name calls old is
entered_front name (Entered folder other true ∷ calls) old is = ⊎_elim (λ here. or_left _ _ here) (λ later. or_right _ _ (entered_front name calls old later)) (or_cases (bytes_eq other name) (has_entered name calls) is)
entered_front name (Entered folder other false ∷ calls) old is = entered_front name calls old is
entered_front name (Failed other ∷ calls) old is = entered_front name calls old is

entered_then : (calls old : List Event) → AreEnteredWhereMade calls → AreEnteredWhereMade old → AreEnteredWhereMade (calls ++ old)
entered_then calls old late early folder made = ⊎_elim
    (λ here. entered_front folder calls old (late folder here))
    (λ before. entered_after folder calls old (early folder before))
    (made_apart folder calls old made)

turn_then : (calls old : List Event) → AreMadeInTurn calls → AreMadeInTurn old → AreEnteredWhereMade old → AreMadeInTurn (calls ++ old)
turn_then [] old turn before entered = before
turn_then (Filled path ∷ calls) old turn before entered = turn_then calls old turn before entered
turn_then (Locked path ∷ calls) old turn before entered = turn_then calls old turn before entered
turn_then (Above store ∷ calls) old turn before entered = turn_then calls old turn before entered
turn_then (Alone ∷ calls) old turn before entered = turn_then calls old turn before entered
turn_then (Entry other ∷ calls) old turn before entered = turn_then calls old turn before entered
turn_then (Listed folder ok ∷ calls) old turn before entered = turn_then calls old turn before entered
turn_then (Folder folder own ∷ calls) old turn before entered = turn_then calls old turn before entered
turn_then (There other device number plain link ∷ calls) old turn before entered = turn_then calls old turn before entered
turn_then (Led other end ∷ calls) old turn before entered = turn_then calls old turn before entered
turn_then (Unseen other ∷ calls) old turn before entered = turn_then calls old turn before entered
turn_then (Absent other ∷ calls) old turn before entered = turn_then calls old turn before entered
turn_then (Length other n ∷ calls) old turn before entered = turn_then calls old turn before entered
turn_then (Read other from bytes ∷ calls) old turn before entered = turn_then calls old turn before entered
turn_then (Again other from bytes ok ∷ calls) old turn before entered = turn_then calls old turn before entered
turn_then (Write other from bytes ok ∷ calls) old turn before entered = turn_then calls old turn before entered
turn_then (Cut other n ok ∷ calls) old turn before entered = turn_then calls old turn before entered
turn_then (Sync other ok ∷ calls) old turn before entered = turn_then calls old turn before entered
turn_then (Made other ok ∷ calls) old turn before entered = turn_then calls old turn before entered
turn_then (MadeFolder folder ok ∷ calls) old turn before entered = (entered_then calls old turn.0 entered, turn_then calls old turn.1 before entered)
turn_then (Entered folder other ok ∷ calls) old turn before entered = turn_then calls old turn before entered
turn_then (Failed other ∷ calls) old turn before entered = turn_then calls old turn before entered

none_made : AreEnteredWhereMade []
none_made folder made = absurd (let bad : false ≡ true = made in cc)

pub no_folders : (paths : List (List ℕ)) (ok : Bool) (old : List Event) → MakesFolders paths ok old old
no_folders paths ok old = record { calls = []; folders = All-nil (IsMakingOf paths); after = refl; turn = tt; entered = λ _. none_made }

pub folders_then : (paths : List (List ℕ)) (ok : Bool) (old mid new : List Event) → MakesFolders paths true old mid → MakesFolders paths ok mid new → MakesFolders paths ok old new
folders_then paths ok old mid new first second = record {
  calls = second.calls ++ first.calls;
  folders = All-append (IsMakingOf paths) _ _ second.folders first.folders;
  after = second.after ∙ ap (λ l. second.calls ++ l) first.after ∙ sym (append_assoc second.calls first.calls old);
  turn = turn_then second.calls first.calls second.turn first.turn (first.entered refl);
  entered = λ done. entered_then second.calls first.calls (second.entered done) (first.entered refl);
}

-- less of what was done is said of them
pub folders_less : (paths : List (List ℕ)) (ok less : Bool) (old new : List Event) → (IsTrue less → IsTrue ok) → MakesFolders paths ok old new → MakesFolders paths less old new
folders_less paths ok less old new weaker makes = record { calls = makes.calls; folders = makes.folders; after = makes.after; turn = makes.turn; entered = λ done. makes.entered (weaker done) }

-- .. of more folders
making_among : (paths more : List (List ℕ)) → ((path : List ℕ) → Contains paths path → Contains more path) → (event : Event) → IsMakingOf paths event → IsMakingOf more event
making_among paths more each (Filled path) is = absurd is
making_among paths more each (Locked path) is = absurd is
making_among paths more each (Above store) is = absurd is
making_among paths more each Alone is = absurd is
making_among paths more each (Entry other) is = absurd is
making_among paths more each (Listed folder ok) is = absurd is
making_among paths more each (Folder folder own) is = absurd is
making_among paths more each (There other device number plain link) is = absurd is
making_among paths more each (Led other end) is = absurd is
making_among paths more each (Unseen other) is = absurd is
making_among paths more each (Absent other) is = absurd is
making_among paths more each (Length other n) is = absurd is
making_among paths more each (Read other from bytes) is = absurd is
making_among paths more each (Again other from bytes ok) is = absurd is
making_among paths more each (Write other from bytes ok) is = absurd is
making_among paths more each (Cut other n ok) is = absurd is
making_among paths more each (Sync other ok) is = absurd is
making_among paths more each (Made other ok) is = absurd is
making_among paths more each (MadeFolder folder ok) is = each folder is
making_among paths more each (Entered above folder ok) is = each folder is
making_among paths more each (Failed other) is = absurd is

pub folders_among : (paths more : List (List ℕ)) (ok : Bool) (old new : List Event) → ((path : List ℕ) → Contains paths path → Contains more path) → MakesFolders paths ok old new → MakesFolders more ok old new
folders_among paths more ok old new each makes = record {
  calls = makes.calls;
  folders = All-weaker (IsMakingOf paths) (IsMakingOf more) (making_among paths more each) makes.calls makes.folders;
  after = makes.after;
  turn = makes.turn;
  entered = makes.entered;
}

-- the one name of a list
pub only_one : (one name : List ℕ) (more : List (List ℕ)) → Contains more one → Contains (one ∷ []) name → Contains more name
only_one one name more is among = ⊎_elim
    (λ none. absurd (omega (arith, none.1)))
    (λ same. subst (Contains more) same is)
    (Contains-push_cases [] one name among)

pub first_of_more : (one : List ℕ) (more : List (List ℕ)) → Contains (one ∷ more) one
first_of_more one more = (0, omega arith, refl)

pub rest_of_more : (one name : List ℕ) (more : List (List ℕ)) → Contains more name → Contains (one ∷ more) name
rest_of_more one name more among = Contains-append_right (one ∷ []) more name among

-- the entries of the folders on a way, one after another
pub way_failed : {A E : Type 0} (way : List ℕ) (result : Result A E) (event : Event) (old mid new : List Event) → IsErr result → OnlyEntries (folders_on way) old mid → IsEntryOf (folders_on way) event → new ≡ event ∷ mid → EntersWay way (is_ok result) old new
way_failed way (Ok x) event old mid new failed before is noted = absurd (let bad : false ≡ true = failed in cc)
way_failed way (Err e) event old mid new failed before is noted = record {
  only = entries_then (folders_on way) old mid new before (one_entry (folders_on way) event mid new is noted);
  entered = λ done. absurd (let bad : false ≡ true = done in cc);
}

entered_one : (event : Event) (old new : List Event) → new ≡ event ∷ old → (name : List ℕ) → IsTrue (has_entered name old) → IsTrue (has_entered name new)
entered_one event old new noted name is = subst (λ (es : List Event). IsTrue (has_entered name es)) (sym noted) (entered_by name event old is)

entered_here : (folder name : List ℕ) (ok : Bool) (old new : List Event) → ok ≡ true → new ≡ Entered folder name ok ∷ old → IsTrue (has_entered name new)
entered_here folder name ok old new said noted =
    subst (λ (es : List Event). IsTrue (has_entered name es)) (sym (noted ∙ ap (λ (b : Bool). Entered folder name b ∷ old) said))
    (or_left _ _ ((bytes_eq-Decides name name).1 refl))

pub way_more : (path items folder name : List ℕ) (at : ℕ) (ok : Bool) (old new : List Event) → items ≡ path → at < length items → name ≡ take at path → ok ≡ true → new ≡ Entered folder name ok ∷ old
    → All (λ f. IsTrue (has_entered f old)) (folders_on (take at path)) → All (λ f. IsTrue (has_entered f new)) (folders_on (take (at + 1) path))
way_more path items folder name at ok old new same within here said noted are =
    folders_to_more (λ f. IsTrue (has_entered f new)) path at (subst (λ (l : List ℕ). at < length l) same within)
    (All-weaker (λ f. IsTrue (has_entered f old)) (λ f. IsTrue (has_entered f new)) (λ f. entered_one (Entered folder name ok) old new noted f) (folders_on (take at path)) are)
    (λ slash. subst (λ (f : List ℕ). IsTrue (has_entered f new)) here (entered_here folder name ok old new said noted))

pub slash_at : (items : List ℕ) (at : ℕ) → get_or items at 0 ≡ 47 → is_slash (get_or items at 0) ≡ true
slash_at items at here = eq-eqb (get_or items at 0) 47 here

pub way_same : (path items : List ℕ) (at : ℕ) (calls : List Event) → items ≡ path → at < length items → get_or items at 0 ≢ 47
    → All (λ f. IsTrue (has_entered f calls)) (folders_on (take at path)) → All (λ f. IsTrue (has_entered f calls)) (folders_on (take (at + 1) path))
way_same path items at calls same within other are =
    folders_to_more (λ f. IsTrue (has_entered f calls)) path at (subst (λ (l : List ℕ). at < length l) same within) are
    (λ slash. absurd (let bad : true ≡ false = sym slash ∙ ap (λ (l : List ℕ). is_slash (get_or l at 0)) (sym same) ∙ ne_eqb (get_or items at 0) 47 other in cc))

pub way_end : (path items : List ℕ) (at : ℕ) (old new : List Event) → items ≡ path → length items ≤ at → OnlyEntries (folders_on path) old new → All (λ f. IsTrue (has_entered f new)) (folders_on (take at path)) → EntersWay path true old new
way_end path items at old new same past only are = record {
  only = only;
  entered = λ done. subst (λ (p : List ℕ). All (λ f. IsTrue (has_entered f new)) (folders_on p)) (take_all at path (subst (λ (l : List ℕ). length l ≤ at) same past)) are;
}

way_among : (name path : List ℕ) (old new : List Event) → folders_on path ≡ folders_on name → OnlyEntries (folders_on path) old new → OnlyEntries (name ∷ folders_on name) old new
way_among name path old new same only =
    entries_among (folders_on path) (name ∷ folders_on name) old new
    (λ other among. rest_of_more name other (folders_on name) (subst (λ (l : List (List ℕ)). Contains l other) same among)) only

name_among : (name : List ℕ) (old new : List Event) → OnlyEntries (name ∷ []) old new → OnlyEntries (name ∷ folders_on name) old new
name_among name old new only =
    entries_among (name ∷ []) (name ∷ folders_on name) old new (λ other among. only_one name other (name ∷ folders_on name) (first_of_more name (folders_on name)) among) only

-- an entry after those on its way, which are those of the folders that lead to it
pub entry_after_way : (name path folder : List ℕ) (old mid led new : List Event) → path ≡ folder_of name → EntersWay path true old mid → OnlyEntries (name ∷ []) mid led → new ≡ Entered folder name true ∷ led → EntersFile name true old new
entry_after_way name path folder old mid led new is way looked noted =
    let all : List (List ℕ) = name ∷ folders_on name in
    let same : folders_on path ≡ folders_on name = ap folders_on is ∙ same_folders name in
    record {
      only = entries_then all old mid new (way_among name path old mid same way.only)
          (entries_then all mid led new (name_among name mid led looked) (one_entry all (Entered folder name true) led new (first_of_more name (folders_on name)) noted));
      entered = λ done. record {
        file = entered_here folder name true led new refl noted;
        folders = All-weaker (λ f. IsTrue (has_entered f mid)) (λ f. IsTrue (has_entered f new))
            (λ f is. entered_one (Entered folder name true) led new noted f (subst (λ (es : List Event). IsTrue (has_entered f es)) (sym looked.after) (entered_after f looked.calls mid is)))
            (folders_on name) (subst (All (λ f. IsTrue (has_entered f mid))) same (way.entered done));
      };
    }

-- a way that failed
pub way_lost : (name path : List ℕ) (ok : Bool) (old new : List Event) → path ≡ folder_of name → EntersWay path ok old new → EntersFile name false old new
way_lost name path ok old new is way = record {
  only = way_among name path old new (ap folders_on is ∙ same_folders name) way.only;
  entered = λ done. absurd (let bad : false ≡ true = done in cc);
}

-- an entry that failed after its way
pub entry_lost : (name path folder : List ℕ) (ok : Bool) (old mid led new : List Event) → path ≡ folder_of name → EntersWay path ok old mid → OnlyEntries (name ∷ []) mid led → new ≡ Entered folder name false ∷ led → EntersFile name false old new
entry_lost name path folder ok old mid led new is way looked noted =
    let all : List (List ℕ) = name ∷ folders_on name in
    record {
      only = entries_then all old mid new (way_among name path old mid (ap folders_on is ∙ same_folders name) way.only)
          (entries_then all mid led new (name_among name mid led looked) (one_entry all (Entered folder name false) led new (first_of_more name (folders_on name)) noted));
      entered = λ done. absurd (let bad : false ≡ true = done in cc);
    }

pub err_false : {A E : Type 0} (result : Result A E) → IsErr result → is_ok result ≡ false
err_false (Ok x) failed = absurd (let bad : false ≡ true = failed in cc)
err_false (Err e) failed = refl

pub lost_as : {A E : Type 0} (name : List ℕ) (result : Result A E) (old new : List Event) → IsErr result → EntersFile name false old new → EntersFile name (is_ok result) old new
lost_as name result old new failed lost = subst (λ (ok : Bool). EntersFile name ok old new) (sym (err_false result failed)) lost

-- the making of folders, one after another
one_among : (paths : List (List ℕ)) (folder : List ℕ) (ok : Bool) (old new : List Event) → Contains paths folder → MakesFolders (folder ∷ []) ok old new → MakesFolders paths ok old new
one_among paths folder ok old new among makes = folders_among (folder ∷ []) paths ok old new (λ path is. only_one folder path paths among is) makes

pub folders_failed : {A E : Type 0} (paths : List (List ℕ)) (folder : List ℕ) (result : Result A E) (ok : Bool) (old mid new : List Event) → IsErr result → Contains paths folder → MakesFolders paths true old mid → MakesFolders (folder ∷ []) ok mid new
    → MakesFolders paths (is_ok result) old new
folders_failed paths folder (Ok x) ok old mid new failed among first second = absurd (let bad : false ≡ true = failed in cc)
folders_failed paths folder (Err e) ok old mid new failed among first second =
    folders_then paths false old mid new first (folders_less paths ok false mid new (λ done. absurd (let bad : false ≡ true = done in cc)) (one_among paths folder ok mid new among second))

pub folders_more : (paths : List (List ℕ)) (folder : List ℕ) (ok : Bool) (old mid new : List Event) → ok ≡ true → Contains paths folder → MakesFolders paths true old mid → MakesFolders (folder ∷ []) ok mid new → MakesFolders paths true old new
folders_more paths folder ok old mid new said among first second =
    folders_then paths true old mid new first (folders_less paths ok true mid new (λ done. said) (one_among paths folder ok mid new among second))

pub folder_unmade : (folder : List ℕ) (made ok : Bool) (old new : List Event) → new ≡ MadeFolder folder made ∷ old → ok ≡ false → MakesFolders (folder ∷ []) ok old new
folder_unmade folder made ok old new noted failed = record {
  calls = MadeFolder folder made ∷ [];
  folders = All-cons (IsMakingOf (folder ∷ [])) (MadeFolder folder made) [] (first_of_more folder []) (All-nil (IsMakingOf (folder ∷ [])));
  after = noted;
  turn = (none_made, tt);
  entered = λ done. absurd (let bad : true ≡ false = sym done ∙ failed in cc);
}

pub folder_made : (above folder : List ℕ) (made entered ok : Bool) (old mid new : List Event) → mid ≡ MadeFolder folder made ∷ old → new ≡ Entered above folder entered ∷ mid → (IsTrue ok → entered ≡ true) → MakesFolders (folder ∷ []) ok old new
folder_made above folder made entered ok old mid new made_noted entered_noted done_so = record {
  calls = Entered above folder entered ∷ MadeFolder folder made ∷ [];
  folders = All-cons (IsMakingOf (folder ∷ [])) (Entered above folder entered) (MadeFolder folder made ∷ []) (first_of_more folder [])
      (All-cons (IsMakingOf (folder ∷ [])) (MadeFolder folder made) [] (first_of_more folder []) (All-nil (IsMakingOf (folder ∷ []))));
  after = entered_noted ∙ ap (λ l. Entered above folder entered ∷ l) made_noted;
  turn = (none_made, tt);
  entered = λ done at was. ⊎_elim
      (λ here. subst (λ (b : Bool). IsTrue (has_entered at (Entered above folder b ∷ MadeFolder folder made ∷ []))) (sym (done_so done)) (or_left _ _ here))
      (λ none. absurd (let bad : false ≡ true = none in cc))
      (or_cases (bytes_eq folder at) false was);
}

-- those on the way of a file
pub makes_file : (name path : List ℕ) (ok done : Bool) (old before new : List Event) → path ≡ folder_of name → MakesFolders (folders_on path) ok old before → (IsTrue done → IsTrue ok) → new ≡ Made name done ∷ before → Makes name done old new
makes_file name path ok done old before new is makes weaker noted = record {
  before = before;
  folders = folders_less (folders_on name) ok done old before weaker (subst (λ (l : List (List ℕ)). MakesFolders l ok old before) (ap folders_on is ∙ same_folders name) makes);
  after = noted;
}

pub on_ok : {A E : Type 0} (P : Type 0) (result : Result A E) → OnOk result P → is_ok result ≡ true → P
on_ok P (Ok x) held said = held
on_ok P (Err e) held said = absurd (let bad : false ≡ true = said in cc)

-- what is noted of entries and of folders is part of a call, and doesn't count
entry_fine : (names : List (List ℕ)) (event : Event) (old : List Event) → IsEntryOf names event → failed_calls (event ∷ old) ≡ failed_calls old
entry_fine names (Filled path) old is = absurd is
entry_fine names (Locked path) old is = absurd is
entry_fine names (Above store) old is = absurd is
entry_fine names Alone old is = absurd is
entry_fine names (Entry other) old is = absurd is
entry_fine names (Listed folder ok) old is = absurd is
entry_fine names (Folder folder own) old is = absurd is
entry_fine names (There other device number plain link) old is = absurd is
entry_fine names (Led other end) old is = refl
entry_fine names (Unseen other) old is = absurd is
entry_fine names (Absent other) old is = absurd is
entry_fine names (Length other n) old is = absurd is
entry_fine names (Read other from bytes) old is = absurd is
entry_fine names (Again other from bytes ok) old is = absurd is
entry_fine names (Write other from bytes ok) old is = absurd is
entry_fine names (Cut other n ok) old is = absurd is
entry_fine names (Sync other ok) old is = absurd is
entry_fine names (Made other ok) old is = absurd is
entry_fine names (MadeFolder folder ok) old is = absurd is
entry_fine names (Entered folder other ok) old is = refl
entry_fine names (Failed other) old is = absurd is

entries_run : (names : List (List ℕ)) (calls old : List Event) → All (IsEntryOf names) calls → failed_calls (calls ++ old) ≡ failed_calls old
entries_run names [] old are = refl
entries_run names (event ∷ calls) old are =
    entry_fine names event (calls ++ old) (All-head (IsEntryOf names) event calls are) ∙ entries_run names calls old (All-tail (IsEntryOf names) event calls are)

pub entries_fine : (names : List (List ℕ)) (old new : List Event) → OnlyEntries names old new → failed_calls new ≡ failed_calls old
entries_fine names old new only = ap failed_calls only.after ∙ entries_run names only.calls old only.entries

folder_fine : (paths : List (List ℕ)) (event : Event) (old : List Event) → IsMakingOf paths event → failed_calls (event ∷ old) ≡ failed_calls old
folder_fine paths (Filled path) old is = absurd is
folder_fine paths (Locked path) old is = absurd is
folder_fine paths (Above store) old is = absurd is
folder_fine paths Alone old is = absurd is
folder_fine paths (Entry other) old is = absurd is
folder_fine paths (Listed folder ok) old is = absurd is
folder_fine paths (Folder folder own) old is = absurd is
folder_fine paths (There other device number plain link) old is = absurd is
folder_fine paths (Led other end) old is = absurd is
folder_fine paths (Unseen other) old is = absurd is
folder_fine paths (Absent other) old is = absurd is
folder_fine paths (Length other n) old is = absurd is
folder_fine paths (Read other from bytes) old is = absurd is
folder_fine paths (Again other from bytes ok) old is = absurd is
folder_fine paths (Write other from bytes ok) old is = absurd is
folder_fine paths (Cut other n ok) old is = absurd is
folder_fine paths (Sync other ok) old is = absurd is
folder_fine paths (Made other ok) old is = absurd is
folder_fine paths (MadeFolder folder ok) old is = refl
folder_fine paths (Entered folder other ok) old is = refl
folder_fine paths (Failed other) old is = absurd is

folders_run : (paths : List (List ℕ)) (calls old : List Event) → All (IsMakingOf paths) calls → failed_calls (calls ++ old) ≡ failed_calls old
folders_run paths [] old are = refl
folders_run paths (event ∷ calls) old are =
    folder_fine paths event (calls ++ old) (All-head (IsMakingOf paths) event calls are) ∙ folders_run paths calls old (All-tail (IsMakingOf paths) event calls are)

pub made_count : (name : List ℕ) (ok : Bool) (old new : List Event) → Makes name ok old new → failed_calls new ≡ with_answer ok (failed_calls old)
made_count name ok old new makes =
    ap failed_calls makes.after ∙ ap (with_answer ok) (ap failed_calls makes.folders.after ∙ folders_run (folders_on name) makes.folders.calls old makes.folders.folders)

failure_counts : (name : List ℕ) (ok : Bool) (calls : List Event) → failed_calls (with_failure name ok calls) ≡ with_answer ok (failed_calls calls)
failure_counts name true calls = refl
failure_counts name false calls = refl

pub enters_count : (name : List ℕ) (ok : Bool) (old new : List Event) → Enters name ok old new → failed_calls new ≡ with_answer ok (failed_calls old)
enters_count name ok old new enters =
    ap failed_calls enters.after ∙ failure_counts name ok enters.before ∙ ap (with_answer ok) (entries_fine (name ∷ folders_on name) old enters.before enters.entries.only)

-- a count of failures, by what was answered
pub counts_call : {A : Type 0} (result : Result A DiskFault) (old new : List Event) → failed_calls new ≡ with_answer (is_ok result) (failed_calls old) → CountsCall old new result
counts_call (Ok x) old new is = record { kept = is; counted = tt }
counts_call (Err e) old new is = record { kept = tt; counted = is }

-- the entries of a file, with the failure that is noted last
with_failure_right : (world : World) (name : List ℕ) (ok : Bool) (calls : List Event) → AreRight world (with_failure name ok calls) → AreRight world calls
with_failure_right world name true calls right = right
with_failure_right world name false calls right = right.1

with_failure_looks : (world : World) (name : List ℕ) (ok : Bool) (calls : List Event) → Looks world calls (with_failure name ok calls)
with_failure_looks world name true calls = no_looks world calls
with_failure_looks world name false calls = one_looks world (Failed name) calls tt

pub enters_look : (world : World) (name : List ℕ) (ok : Bool) (old new : List Event) → Enters name ok old new → AreRight world new → AreRight world old × Looks world old new
enters_look world name ok old new enters right =
    let at_last : AreRight world (with_failure name ok enters.before) = subst (AreRight world) enters.after right in
    let first = entries_look world (name ∷ folders_on name) old enters.before enters.entries.only (with_failure_right world name ok enters.before at_last) in
    (first.0, subst (Looks world old) (sym enters.after) (looks_then world old enters.before (with_failure name ok enters.before) first.1 (with_failure_looks world name ok enters.before)))

with_failure_keeps : (P : List Event → Type 0) (name : List ℕ) (ok : Bool) (calls : List Event) → (P calls → P (Failed name ∷ calls)) → P calls → P (with_failure name ok calls)
with_failure_keeps P name true calls stays held = held
with_failure_keeps P name false calls stays held = stays held

pub enters_absent : (name : List ℕ) (ok : Bool) (old new : List Event) → Enters name ok old new → (other : List ℕ) → HasAbsent other old → HasAbsent other new
enters_absent name ok old new enters other is =
    subst (HasAbsent other) (sym enters.after)
    (with_failure_keeps (HasAbsent other) name ok enters.before (λ held. held) (entries_absent other (name ∷ folders_on name) old enters.before enters.entries.only is))

pub enters_entered : (name : List ℕ) (ok : Bool) (old new : List Event) → Enters name ok old new → (other : List ℕ) → HasEntered other old → HasEntered other new
enters_entered name ok old new enters other is =
    subst (HasEntered other) (sym enters.after)
    (with_failure_keeps (HasEntered other) name ok enters.before (λ held. reached_after other (Failed name ∷ []) enters.before held) (entries_entered other (name ∷ folders_on name) old enters.before enters.entries.only is))

pub enters_held : (name : List ℕ) (ok : Bool) (old new : List Event) → Enters name ok old new → IsHeld old → IsHeld new
enters_held name ok old new enters is =
    subst IsHeld (sym enters.after) (with_failure_keeps IsHeld name ok enters.before (λ held. held) (entries_held (name ∷ folders_on name) old enters.before enters.entries.only is))

-- .. where all of them are on the device
pub enters_done : (name : List ℕ) (ok : Bool) (old new : List Event) → Enters name ok old new → ok ≡ true → HasEntered name new
enters_done name ok old new enters said =
    subst (HasEntered name) (sym (enters.after ∙ ap (λ (b : Bool). with_failure name b enters.before) said)) (enters.entries.entered said)

pub on_err : {A E : Type 0} (P : Type 0) (result : Result A E) → OnErr result P → is_ok result ≡ false → P
on_err P (Ok x) held said = absurd (let bad : true ≡ false = said in cc)
on_err P (Err e) held said = held

-- the entries of a file as a call answers
pub enters_lost : {A B E F : Type 0} (name : List ℕ) (result : Result A E) (answer : Result B F) (old mid new : List Event) → IsErr result → is_ok answer ≡ false → EntersFile name (is_ok answer) old mid → new ≡ Failed name ∷ mid → Enters name (is_ok result) old new
enters_lost name result answer old mid new failed said entries noted =
    let lost : Enters name false old new = record {
      before = mid;
      entries = subst (λ (ok : Bool). EntersFile name ok old mid) said entries;
      after = noted;
    } in
    subst (λ (ok : Bool). Enters name ok old new) (sym (err_false result failed)) lost

pub enters_made : {B F : Type 0} (name : List ℕ) (answer : Result B F) (old mid new : List Event) → is_ok answer ≡ true → EntersFile name (is_ok answer) old mid → new ≡ mid → Enters name true old new
enters_made name answer old mid new said entries same = record {
  before = mid;
  entries = subst (λ (ok : Bool). EntersFile name ok old mid) said entries;
  after = same;
}

counted_lost : {A : Type 0} (result : Result A DiskFault) (old new : List Event) → IsErr result → failed_calls new ≡ failed_calls old + 1 → CountsCall old new result
counted_lost (Ok x) old new failed is = absurd (let bad : false ≡ true = failed in cc)
counted_lost (Err e) old new failed is = record { kept = tt; counted = is }

-- .. where another answer was a fault
pub counts_lost : {A B F : Type 0} (result : Result A DiskFault) (answer : Result B F) (old new : List Event) → IsErr result → is_ok answer ≡ false → failed_calls new ≡ with_answer (is_ok answer) (failed_calls old) → CountsCall old new result
counts_lost result answer old new failed said is = counted_lost result old new failed (is ∙ ap (λ (b : Bool). with_answer b (failed_calls old)) said)

-- .. and where it was none, before a call that counts
then_counted : {A : Type 0} (result : Result A DiskFault) (old mid new : List Event) → failed_calls mid ≡ failed_calls old → CountsCall mid new result → CountsCall old new result
then_counted (Ok x) old mid new same counts = record { kept = counts.kept ∙ same; counted = tt }
then_counted (Err e) old mid new same counts = record { kept = tt; counted = counts.counted ∙ ap (λ (n : ℕ). n + 1) same }

pub counts_then : {A B F : Type 0} (result : Result A DiskFault) (answer : Result B F) (old mid new : List Event) → is_ok answer ≡ true → failed_calls mid ≡ with_answer (is_ok answer) (failed_calls old) → CountsCall mid new result → CountsCall old new result
counts_then result answer old mid new said is counts = then_counted result old mid new (is ∙ ap (λ (b : Bool). with_answer b (failed_calls old)) said) counts

-- a file that was made is kept open, or given up
pub keep_looks : {A : Type 0} (world : World) (name : List ℕ) (result : Result A DiskFault) (old mid new : List Event) → OnOk result (new ≡ mid) → OnErr result (new ≡ Failed name ∷ mid)
    → (AreRight world mid → AreRight world old × Looks world old mid) → AreRight world new → AreRight world old × Looks world old new
keep_looks world name (Ok x) old mid new same lost before right =
    subst (λ (es : List Event). AreRight world old × Looks world old es) (sym same) (before (subst (AreRight world) same right))
keep_looks world name (Err e) old mid new same lost before right =
    let at_last : AreRight world (Failed name ∷ mid) = subst (AreRight world) lost right in
    let first = before at_last.1 in
    (first.0, subst (Looks world old) (sym lost) (looks_then world old mid (Failed name ∷ mid) first.1 (one_looks world (Failed name) mid tt)))

pub keep_counts : {A : Type 0} (name : List ℕ) (result : Result A DiskFault) (old mid new : List Event) → OnOk result (new ≡ mid) → OnErr result (new ≡ Failed name ∷ mid) → failed_calls mid ≡ failed_calls old → CountsCall old new result
keep_counts name (Ok x) old mid new same lost before = record { kept = ap failed_calls same ∙ before; counted = tt }
keep_counts name (Err e) old mid new same lost before = record { kept = tt; counted = ap failed_calls lost ∙ ap (λ (n : ℕ). n + 1) before }

-- after the sync of a file
pub synced_entered : (name other : List ℕ) (ok : Bool) (old new : List Event) → new ≡ Sync other ok ∷ old → HasEntered name old → HasEntered name new
synced_entered name other ok old new noted is = subst (HasEntered name) (sym noted) (reached_after name (Sync other ok ∷ []) old is)

-- the record of each file that is open, after a file was made
pub all_entered : {F : Type 0} (old new : List Event) (files : List (Opened F)) → ((name : List ℕ) → HasEntered name old → HasEntered name new) → AreEntered old files → AreEntered new files
all_entered {F} old new files each are =
    All-weaker (λ (opened : Opened F). IsTrue opened.is_entered → HasEntered opened.name old) (λ opened. IsTrue opened.is_entered → HasEntered opened.name new)
    (λ opened was is. each opened.name (was is)) files are

pub kept_as : {A E S T : Type 0} (f : S → T) (result : Result A E) (new old : S) → OnOk result (new ≡ old) → OnOk result (f new ≡ f old)
kept_as f (Ok x) new old same = ap f same
kept_as f (Err e) new old same = tt

pub err_holds : {A E : Type 0} (P : Type 0) (result : Result A E) → P → OnErr result P
err_holds P (Ok x) held = tt
err_holds P (Err e) held = held
