-- How the record of steps goes on with the calls that were made for them.
use Rattle.std.proofs.Common.{◌≡◌, ◌∙◌, ap, ℕ, Bool, true, false, List, [], ◌∷◌, ◌++◌, map, if◌then◌else◌, String, string_bytes, IsTrue, IsFalse, IfOk, OnErr, OnOk, Option, Some, Result, Ok, Err, is_err, is_ok, refl, sym, subst, inl, inr, ⊎_elim}
use Rattle.std.specs.List.{list_any}
use Rattle.std.specs.Prelude.{⊤, ◌==◌, not}
use Rattle.std.proofs.lemmas.Bool.{and_from, and_parts, or_cases, or_left, or_right, eq-eqb}
use Rattle.std.proofs.lemmas.Slice.Eq.{bytes_eq-Decides}
use Rattle.std.specs.Str.{bytes_eq}
use Rattle.std.specs.Path.{path_parent}
use Rattle.org_disk.specs.Names.{folder_of}
use Rattle.org_disk.specs.declared.disk.DiskFault.{DiskFault}
use Rattle.org_folder.specs.Calls.{AreOwnFolders, Event, StandsIn, has_failed, is_parent, with_entries}
use Rattle.org_folder.specs.Calls.Event.{Filled, Locked, Above, Alone, Entry, Listed, Folder, There, Led, Unseen, Absent, Length, Read, Write, Again, Cut, Sync, Made, MadeFolder, Entered, Failed}
use Rattle.org_folder.specs.Raw.{Raw, effects, acts, accounts, same, AreOwnModes, AreFoldersSynced, CutsOff, GoesWith, IsFolderSynced, IsMadeAt, OnlyAsks, PutsEntry, SyncsContent, SyncsFolder, SyncsOne, are_folders_synced, are_own_modes, is_folder_synced}
use Rattle.org_folder.specs.Raw.Raw.{Call}
use Rattle.org_folder.specs.declared.calls.SystemCall.TheVariants as system
use Rattle.org_folder.specs.declared.record.Record.{Record}

self : (name : List ℕ) → bytes_eq name name ≡ true
self name = (bytes_eq-Decides name name).1 refl

equal : (n : ℕ) → (n == n) ≡ true
equal n = eq-eqb n n refl

alike : (ok : Bool) → same ok ok ≡ true
alike true = refl
alike false = refl

-- the journal's name is no name of a file that a text makes
pub unnamed : (named is : Bool) → is ≡ not named → IsTrue is → IsFalse named
unnamed true is same said = let bad : false ≡ true = sym same ∙ said in cc
unnamed false is same said = refl

-- a step for which no file is changed, made or synced
abbrev pub IsQuiet : Event → Type 0
IsQuiet (Filled path) = ⊤
IsQuiet (Locked path) = ⊥
IsQuiet (Above store) = ⊤
IsQuiet Alone = ⊤
IsQuiet (Entry name) = ⊤
IsQuiet (Listed folder ok) = ⊤
IsQuiet (Folder folder own) = ⊤
IsQuiet (There name device number plain link) = ⊤
IsQuiet (Led name end) = ⊤
IsQuiet (Unseen name) = ⊤
IsQuiet (Absent name) = ⊤
IsQuiet (Length name n) = ⊤
IsQuiet (Read name from bytes) = ⊤
IsQuiet (Again name from bytes ok) = ⊥
IsQuiet (Failed name) = ⊤
IsQuiet (Write name from [] ok) = ⊤
IsQuiet (Write name from (byte ∷ bytes) ok) = ⊥
IsQuiet (Cut name n ok) = ⊥
IsQuiet (Sync name ok) = ⊥
IsQuiet (Made name ok) = ⊥
IsQuiet (MadeFolder folder ok) = ⊥
IsQuiet (Entered folder name ok) = ⊥

still : (step : Event) (earlier : List Event) (calls : List Raw) → IsQuiet step → IsTrue (accounts earlier calls) → IsTrue (accounts (step ∷ earlier) calls)
still (Filled path) earlier calls is before = before
still (Locked path) earlier calls is before = absurd is
still (Above store) earlier calls is before = before
still Alone earlier calls is before = before
still (Entry name) earlier calls is before = before
still (Listed folder ok) earlier calls is before = before
still (Folder folder own) earlier calls is before = before
still (There name device number plain link) earlier calls is before = before
still (Led name end) earlier calls is before = before
still (Unseen name) earlier calls is before = before
still (Absent name) earlier calls is before = before
still (Length name n) earlier calls is before = before
still (Read name from bytes) earlier calls is before = before
still (Again name from bytes ok) earlier calls is before = absurd is
still (Failed name) earlier calls is before = before
still (Write name from [] ok) earlier calls is before = before
still (Write name from (byte ∷ bytes) ok) earlier calls is before = absurd is
still (Cut name n ok) earlier calls is before = absurd is
still (Sync name ok) earlier calls is before = absurd is
still (Made name ok) earlier calls is before = absurd is
still (MadeFolder folder ok) earlier calls is before = absurd is
still (Entered folder name ok) earlier calls is before = absurd is

-- calls that only ask
pub asked : (steps : List Event) (old new : List Raw) → OnlyAsks old new → GoesWith steps old → GoesWith steps new
asked steps old new asks before = subst (λ (cs : List Raw). IsTrue (accounts steps (acts cs))) (sym asks) before

pub asked_modes : (old new : List Raw) → OnlyAsks old new → AreOwnModes old → AreOwnModes new
asked_modes old new asks before = subst (λ (cs : List Raw). IsTrue (are_own_modes cs)) (sym asks) before

pub asked_synced : (folders : List (List ℕ)) (old new : List Raw) → OnlyAsks old new → AreFoldersSynced folders old → AreFoldersSynced folders new
asked_synced folders old new asks before = subst (λ (cs : List Raw). IsTrue (are_folders_synced folders (acts cs))) (sym asks) before

-- a quiet step, after calls that only ask
pub quiet : (step : Event) (earlier steps : List Event) (old new : List Raw) → IsQuiet step → steps ≡ step ∷ earlier → OnlyAsks old new → GoesWith earlier old → GoesWith steps new
quiet step earlier steps old new is noted asks before =
    subst (λ (es : List Event). GoesWith es new) (sym noted) (still step earlier (acts (effects new)) is (asked earlier old new asks before))

entries : (names : List (List ℕ)) (earlier : List Event) (calls : List Raw) → IsTrue (accounts earlier calls) → IsTrue (accounts (with_entries names earlier) calls)
entries [] earlier calls before = before
entries (name ∷ names) earlier calls before = entries names (Entry name ∷ earlier) calls before

pub listed : (folder : List ℕ) (names : List (List ℕ)) (earlier steps : List Event) (old new : List Raw) → steps ≡ Listed folder true ∷ with_entries names earlier → OnlyAsks old new → GoesWith earlier old → GoesWith steps new
listed folder names earlier steps old new noted asks before =
    quiet (Listed folder true) (with_entries names earlier) steps old new tt noted asks (entries names earlier (acts (effects old)) before)

-- the same record of calls, but for permissions
pub called : (steps : List Event) (old new : List Raw) → acts (effects new) ≡ acts (effects old) → GoesWith steps old → GoesWith steps new
called steps old new same before = subst (λ (cs : List Raw). IsTrue (accounts steps cs)) (sym same) before

pub called_synced : (folders : List (List ℕ)) (old new : List Raw) → acts (effects new) ≡ acts (effects old) → AreFoldersSynced folders old → AreFoldersSynced folders new
called_synced folders old new same before = subst (λ (cs : List Raw). IsTrue (are_folders_synced folders cs)) (sym same) before

-- a call that syncs no folder, and makes none and no file
still_synced : (folders : List (List ℕ)) (old new : List Raw) → ((folder : List ℕ) → IsTrue (is_folder_synced folder old) → IsTrue (is_folder_synced folder new)) → IsTrue (are_folders_synced folders old) → IsTrue (are_folders_synced folders new)
still_synced [] old new each before = refl
still_synced (folder ∷ folders) old new each before =
    let parts = and_parts (is_folder_synced folder old) (are_folders_synced folders old) before in
    and_from _ _ (each folder parts.0) (still_synced folders old new each parts.1)

-- a folder entered where it is locked, after calls that only ask
pub entered : (path : List ℕ) (earlier steps : List Event) (old mid new : List Raw) → steps ≡ Locked path ∷ earlier → new ≡ Call system.Enter path [] ∷ mid → OnlyAsks old mid → GoesWith earlier old → GoesWith steps new
entered path earlier steps old mid new noted made asks before =
    subst (λ (es : List Event). GoesWith es new) (sym noted)
    (subst (GoesWith (Locked path ∷ earlier)) (sym made) (and_from _ _ (self path) (asked earlier old mid asks before)))

pub entered_modes : (path : List ℕ) (old mid new : List Raw) → new ≡ Call system.Enter path [] ∷ mid → OnlyAsks old mid → AreOwnModes old → AreOwnModes new
entered_modes path old mid new made asks before = subst AreOwnModes (sym made) (asked_modes old mid asks before)

pub entered_synced : (folders : List (List ℕ)) (path : List ℕ) (old mid new : List Raw) → new ≡ Call system.Enter path [] ∷ mid → OnlyAsks old mid → AreFoldersSynced folders old → AreFoldersSynced folders new
entered_synced folders path old mid new made asks before =
    subst (AreFoldersSynced folders) (sym made)
    (still_synced folders (acts (effects mid)) (acts (effects (Call system.Enter path [] ∷ mid))) (λ folder is. is) (asked_synced folders old mid asks before))

wrote_here : (name : List ℕ) (from : ℕ) (bytes : List ℕ) (ok : Bool) (earlier : List Event) (old mid : List Raw) → (bytes ≡ [] → ⊥) → acts (effects mid) ≡ acts (effects old) → GoesWith earlier old
    → GoesWith (Write name from bytes ok ∷ earlier) (Call (system.Write from ok) name bytes ∷ mid)
wrote_here name from [] ok earlier old mid apart same before = absurd (apart refl)
wrote_here name from (byte ∷ bytes) ok earlier old mid apart same before =
    and_from _ _ (and_from _ _ (self name) (and_from _ _ (equal from) (and_from _ _ (self (byte ∷ bytes)) (alike ok)))) (called earlier old mid same before)

-- bytes written, after calls that may have changed permissions
pub wrote : (name path : List ℕ) (from : ℕ) (bytes : List ℕ) (ok did : Bool) (earlier steps : List Event) (old mid new : List Raw) → (bytes ≡ [] → ⊥) → path ≡ name → ok ≡ did
    → steps ≡ Write name from bytes ok ∷ earlier → new ≡ Call (system.Write from did) path bytes ∷ mid → acts (effects mid) ≡ acts (effects old) → GoesWith earlier old → GoesWith steps new
wrote name path from bytes ok did earlier steps old mid new apart under same noted made before_same before =
    subst (λ (es : List Event). GoesWith es new) (sym (noted ∙ ap (λ (b : Bool). Write name from bytes b ∷ earlier) same))
    (subst (GoesWith (Write name from bytes did ∷ earlier)) (sym (made ∙ ap (λ (p : List ℕ). Call (system.Write from did) p bytes ∷ mid) under))
    (wrote_here name from bytes did earlier old mid apart before_same before))

written_again : (name : List ℕ) (from : ℕ) (bytes : List ℕ) (ok : Bool) (earlier : List Event) (old mid : List Raw) → acts (effects mid) ≡ acts (effects old) → GoesWith earlier old
    → GoesWith (Again name from bytes ok ∷ earlier) (Call (system.Write from ok) name bytes ∷ mid)
written_again name from bytes ok earlier old mid same before =
    or_left _ _ (and_from _ _ (and_from _ _ (self name) (and_from _ _ (equal from) (and_from _ _ (self bytes) (alike ok)))) (called earlier old mid same before))

-- bytes written over themselves, after calls that may have changed permissions
pub wrote_again : (name path : List ℕ) (from : ℕ) (bytes : List ℕ) (ok did : Bool) (earlier steps : List Event) (old mid new : List Raw) → path ≡ name → ok ≡ did
    → steps ≡ Again name from bytes ok ∷ earlier → new ≡ Call (system.Write from did) path bytes ∷ mid → acts (effects mid) ≡ acts (effects old) → GoesWith earlier old → GoesWith steps new
wrote_again name path from bytes ok did earlier steps old mid new under same noted made before_same before =
    subst (λ (es : List Event). GoesWith es new) (sym (noted ∙ ap (λ (b : Bool). Again name from bytes b ∷ earlier) same))
    (subst (GoesWith (Again name from bytes did ∷ earlier)) (sym (made ∙ ap (λ (p : List ℕ). Call (system.Write from did) p bytes ∷ mid) under))
    (written_again name from bytes did earlier old mid before_same before))

-- .. or not, in a file that may not be written
pub not_again : (name : List ℕ) (from : ℕ) (bytes : List ℕ) (ok : Bool) (earlier steps : List Event) (calls : List Raw) → steps ≡ Again name from bytes ok ∷ earlier → GoesWith earlier calls → GoesWith steps calls
not_again name from bytes ok earlier steps calls noted before = subst (λ (es : List Event). GoesWith es calls) (sym noted) (or_right _ _ before)

pub wrote_modes : (from : ℕ) (did : Bool) (path bytes : List ℕ) (mid new : List Raw) → new ≡ Call (system.Write from did) path bytes ∷ mid → AreOwnModes mid → AreOwnModes new
wrote_modes from did path bytes mid new made before = subst AreOwnModes (sym made) before

pub wrote_synced : (folders : List (List ℕ)) (from : ℕ) (did : Bool) (path bytes : List ℕ) (mid new : List Raw) → new ≡ Call (system.Write from did) path bytes ∷ mid → AreFoldersSynced folders mid → AreFoldersSynced folders new
wrote_synced folders from did path bytes mid new made before =
    subst (AreFoldersSynced folders) (sym made)
    (still_synced folders (acts (effects mid)) (acts (effects (Call (system.Write from did) path bytes ∷ mid))) (λ folder is. is) before)

pub cut_off : (name : List ℕ) (to : ℕ) (ok did : Bool) (earlier steps : List Event) (old new : List Raw) → ok ≡ did → steps ≡ Cut name to ok ∷ earlier → CutsOff name to old new did → GoesWith earlier old → GoesWith steps new
cut_off name to ok did earlier steps old new same noted cuts before =
    subst (λ (es : List Event). GoesWith es new) (sym (noted ∙ ap (λ (b : Bool). Cut name to b ∷ earlier) same))
    (subst (λ (cs : List Raw). IsTrue (accounts (Cut name to did ∷ earlier) (acts cs))) (sym cuts.is)
    (and_from _ _ (and_from _ _ (self name) (and_from _ _ (equal to) cuts.done)) before))

pub cut_modes : (name : List ℕ) (to : ℕ) (did : Bool) (old new : List Raw) → CutsOff name to old new did → AreOwnModes old → AreOwnModes new
cut_modes name to did old new cuts before = subst (λ (cs : List Raw). IsTrue (are_own_modes cs)) (sym cuts.is) before

pub cut_synced : (folders : List (List ℕ)) (name : List ℕ) (to : ℕ) (did : Bool) (old new : List Raw) → CutsOff name to old new did → AreFoldersSynced folders old → AreFoldersSynced folders new
cut_synced folders name to did old new cuts before =
    subst (λ (cs : List Raw). IsTrue (are_folders_synced folders (acts cs))) (sym cuts.is)
    (still_synced folders (acts (effects old)) (acts (Call (system.Truncate to cuts.did) name [] ∷ effects old)) (λ folder is. is) before)

synced_one : (name : List ℕ) (ok : Bool) (earlier : List Event) (old new : List Raw) → SyncsContent name old new ok → GoesWith earlier old → GoesWith (Sync name ok ∷ earlier) new
synced_one name true earlier old new made before =
    subst (GoesWith (Sync name true ∷ earlier)) (sym made) (and_from _ _ (and_from _ _ (self name) (alike true)) before)
synced_one name false earlier old new (inl made) before =
    subst (GoesWith (Sync name false ∷ earlier)) (sym made) (or_left _ _ (and_from _ _ (and_from _ _ (self name) (alike false)) before))
synced_one name false earlier old new (inr asks) before = or_right _ _ (asked earlier old new asks before)

pub synced : (name : List ℕ) (ok did : Bool) (earlier steps : List Event) (old new : List Raw) → ok ≡ did → steps ≡ Sync name ok ∷ earlier → SyncsContent name old new did → GoesWith earlier old → GoesWith steps new
synced name ok did earlier steps old new same noted syncs before =
    subst (λ (es : List Event). GoesWith es new) (sym (noted ∙ ap (λ (b : Bool). Sync name b ∷ earlier) same)) (synced_one name did earlier old new syncs before)

pub sync_modes : (ok : Bool) (name : List ℕ) (old new : List Raw) → SyncsContent name old new ok → AreOwnModes old → AreOwnModes new
sync_modes true name old new made before = subst AreOwnModes (sym made) before
sync_modes false name old new (inl made) before = subst AreOwnModes (sym made) before
sync_modes false name old new (inr asks) before = asked_modes old new asks before

pub sync_synced : (folders : List (List ℕ)) (ok : Bool) (name : List ℕ) (old new : List Raw) → SyncsContent name old new ok → AreFoldersSynced folders old → AreFoldersSynced folders new
sync_synced folders true name old new made before =
    subst (AreFoldersSynced folders) (sym made)
    (still_synced folders (acts (effects old)) (acts (effects (Call (system.DataSync true) name [] ∷ old))) (λ folder is. is) before)
sync_synced folders false name old new (inl made) before =
    subst (AreFoldersSynced folders) (sym made)
    (still_synced folders (acts (effects old)) (acts (effects (Call (system.DataSync false) name [] ∷ old))) (λ folder is. is) before)
sync_synced folders false name old new (inr asks) before = asked_synced folders old new asks before

-- no sync failed, where the last one is known not to have
pub unfailed_sync : (name : List ℕ) (result : Result (Unit {0}) DiskFault) (failed has ok : Bool) (earlier steps : List Event) → steps ≡ Sync name ok ∷ earlier → ok ≡ is_ok result → has ≡ is_err result
    → OnOk result (IsFalse failed) → (IsFalse failed → IsFalse (has_failed earlier)) → IsFalse has → IsFalse (has_failed steps)
unfailed_sync name (Ok done) failed has ok earlier steps noted same is once before none =
    subst (λ (es : List Event). IsFalse (has_failed es)) (sym (noted ∙ ap (λ (b : Bool). Sync name b ∷ earlier) same)) (before once)
unfailed_sync name (Err fault) failed has ok earlier steps noted same is once before none = let bad : false ≡ true = sym none ∙ is in cc

makes_one : (name : List ℕ) (ok : Bool) (earlier : List Event) (old new : List Raw) → IsMadeAt name old new ok → GoesWith earlier old → GoesWith (Made name ok ∷ earlier) new
makes_one name true earlier old new makes before =
    subst (λ (cs : List Raw). IsTrue (accounts (Made name true ∷ earlier) cs)) (sym makes.called) (and_from _ _ (and_from _ _ (self name) (and_from _ _ makes.making makes.done)) before)
makes_one name false earlier old new (inl makes) before =
    subst (λ (cs : List Raw). IsTrue (accounts (Made name false ∷ earlier) cs)) (sym makes.called) (or_left _ _ (and_from _ _ (and_from _ _ (self name) (and_from _ _ makes.making makes.done)) before))
makes_one name false earlier old new (inr asks) before = or_right _ _ (asked earlier old new asks before)

pub made_one : (name : List ℕ) (ok did : Bool) (earlier steps : List Event) (old new : List Raw) → ok ≡ did → steps ≡ Made name ok ∷ earlier → IsMadeAt name old new did → GoesWith earlier old → GoesWith steps new
made_one name ok did earlier steps old new same noted makes before =
    subst (λ (es : List Event). GoesWith es new) (sym (noted ∙ ap (λ (b : Bool). Made name b ∷ earlier) same)) (makes_one name did earlier old new makes before)

pub made_modes : (name : List ℕ) (ok : Bool) (old new : List Raw) → IsMadeAt name old new ok → AreOwnModes old → AreOwnModes new
made_modes name true old new makes before = makes.modes before
made_modes name false old new (inl makes) before = makes.modes before
made_modes name false old new (inr asks) before = asked_modes old new asks before

-- a failure in a record that only lists since
pub unfailed : (names : List (List ℕ)) (earlier : List Event) → IsFalse (has_failed earlier) → IsFalse (has_failed (with_entries names earlier))
unfailed [] earlier before = before
unfailed (name ∷ names) earlier before = unfailed names (Entry name ∷ earlier) before

-- A failure in a record that was only looked at, or listed, or whose folders were found, changes
-- none of this.
pub same_failed : (steps earlier : List Event) → has_failed steps ≡ has_failed earlier → IsFalse (has_failed earlier) → IsFalse (has_failed steps)
same_failed steps earlier same before = same ∙ before

own_entries : (names : List (List ℕ)) (earlier : List Event) → AreOwnFolders earlier → AreOwnFolders (with_entries names earlier)
own_entries [] earlier before = before
own_entries (name ∷ names) earlier before = own_entries names (Entry name ∷ earlier) before

pub listed_own : (folder : List ℕ) (names : List (List ℕ)) (earlier steps : List Event) → steps ≡ Listed folder true ∷ with_entries names earlier → AreOwnFolders earlier → AreOwnFolders steps
listed_own folder names earlier steps noted before = subst AreOwnFolders (sym noted) (own_entries names earlier before)

-- a folder made, where none is taken for synced
pub made_folder : (folder : List ℕ) (ok did : Bool) (earlier steps : List Event) (old new : List Raw) → ok ≡ did → steps ≡ MadeFolder folder ok ∷ earlier → new ≡ Call (system.MakeFolder did) folder [] ∷ old → GoesWith earlier old → GoesWith steps new
made_folder folder ok did earlier steps old new same noted made before =
    subst (λ (es : List Event). GoesWith es new) (sym (noted ∙ ap (λ (b : Bool). MadeFolder folder b ∷ earlier) same))
    (subst (GoesWith (MadeFolder folder did ∷ earlier)) (sym made) (and_from _ _ (and_from _ _ (self folder) (alike did)) before))

pub none_synced : (folders : List (List ℕ)) (calls : List Raw) → folders ≡ [] → AreFoldersSynced folders calls
none_synced folders calls none = subst (λ (fs : List (List ℕ)). AreFoldersSynced fs calls) (sym none) refl

-- an entry put on the device
entry_one : (folder name : List ℕ) (ok : Bool) (earlier : List Event) (old new : List Raw) → PutsEntry folder old new ok → GoesWith earlier old → GoesWith (Entered folder name ok ∷ earlier) new
entry_one folder name true earlier old new (inl syncs) before =
    subst (λ (cs : List Raw). IsTrue (accounts (Entered folder name true ∷ earlier) (acts cs))) (sym syncs)
    (or_left _ _ (and_from _ _ (and_from _ _ (self folder) refl) before))
entry_one folder name true earlier old new (inr known) before =
    subst (λ (cs : List Raw). IsTrue (accounts (Entered folder name true ∷ earlier) (acts cs))) (sym known.0)
    (or_right _ _ (and_from _ _ known.1 before))
entry_one folder name false earlier old new (inl syncs) before =
    subst (λ (cs : List Raw). IsTrue (accounts (Entered folder name false ∷ earlier) (acts cs))) (sym syncs)
    (or_left _ _ (and_from _ _ (and_from _ _ (self folder) refl) before))
entry_one folder name false earlier old new (inr asks) before =
    subst (λ (cs : List Raw). IsTrue (accounts (Entered folder name false ∷ earlier) (acts cs))) (sym asks)
    (or_right _ _ before)

pub entry_put : (folder name : List ℕ) (ok did : Bool) (earlier steps : List Event) (old new : List Raw) → ok ≡ did → steps ≡ Entered folder name ok ∷ earlier → PutsEntry folder old new did → GoesWith earlier old → GoesWith steps new
entry_put folder name ok did earlier steps old new same noted puts before =
    subst (λ (es : List Event). GoesWith es new) (sym (noted ∙ ap (λ (b : Bool). Entered folder name b ∷ earlier) same)) (entry_one folder name did earlier old new puts before)

pub entry_own : (folder name : List ℕ) (ok : Bool) (earlier steps : List Event) → steps ≡ Entered folder name ok ∷ earlier → StandsIn name folder earlier → AreOwnFolders earlier → AreOwnFolders steps
entry_own folder name ok earlier steps noted stands before = subst AreOwnFolders (sym noted) (and_from _ _ stands before)

-- the folders that are taken for synced, after the sync of one
after_sync : (folder : List ℕ) (ok : Bool) (old : List Raw) (other : List ℕ) → IsTrue (is_folder_synced other (acts (effects old))) → IsTrue (is_folder_synced other (acts (effects (Call (system.Sync ok) folder [] ∷ old))))
after_sync folder true old other is = or_right _ _ is
after_sync folder false old other is = is

pub put_synced : (folder : List ℕ) (old new : List Raw) → PutsEntry folder old new true → IsFolderSynced folder new
put_synced folder old new (inl syncs) =
    subst (λ (cs : List Raw). IsTrue (is_folder_synced folder (acts cs))) (sym syncs) (or_left _ _ (self folder))
put_synced folder old new (inr known) =
    subst (λ (cs : List Raw). IsTrue (is_folder_synced folder (acts cs))) (sym known.0) known.1

pub put_modes : (folder : List ℕ) (ok : Bool) (old new : List Raw) → PutsEntry folder old new ok → AreOwnModes old → AreOwnModes new
put_modes folder true old new (inl syncs) before = subst (λ (cs : List Raw). IsTrue (are_own_modes cs)) (sym syncs) before
put_modes folder true old new (inr known) before = asked_modes old new known.0 before
put_modes folder false old new (inl syncs) before = subst (λ (cs : List Raw). IsTrue (are_own_modes cs)) (sym syncs) before
put_modes folder false old new (inr asks) before = asked_modes old new asks before

syncs_keep : (folders : List (List ℕ)) (folder : List ℕ) (ok : Bool) (old new : List Raw) → effects new ≡ Call (system.Sync ok) folder [] ∷ effects old → AreFoldersSynced folders old → AreFoldersSynced folders new
syncs_keep folders folder ok old new syncs before =
    subst (λ (cs : List Raw). IsTrue (are_folders_synced folders (acts cs))) (sym syncs)
    (still_synced folders (acts (effects old)) (Call (system.Sync ok) folder [] ∷ acts (effects old)) (λ other is. after_sync folder ok old other is) before)

pub put_keeps : (folders : List (List ℕ)) (folder : List ℕ) (ok : Bool) (old new : List Raw) → PutsEntry folder old new ok → AreFoldersSynced folders old → AreFoldersSynced folders new
put_keeps folders folder true old new (inl syncs) before = syncs_keep folders folder true old new syncs before
put_keeps folders folder true old new (inr known) before = asked_synced folders old new known.0 before
put_keeps folders folder false old new (inl syncs) before = syncs_keep folders folder false old new syncs before
put_keeps folders folder false old new (inr asks) before = asked_synced folders old new asks before

-- one of the folders that are taken for synced
pub is_synced_in : {Y : Type 0} (keys : List (String Y)) (folder : List ℕ) (calls : List Raw) → IsTrue (list_any (λ k. bytes_eq folder (string_bytes k)) keys) → AreFoldersSynced (map string_bytes keys) calls → IsFolderSynced folder calls
is_synced_in [] folder calls among are = let bad : false ≡ true = among in cc
is_synced_in (k ∷ keys) folder calls among are =
    let parts = and_parts (is_folder_synced (string_bytes k) (acts (effects calls))) (are_folders_synced (map string_bytes keys) (acts (effects calls))) are in
    ⊎_elim
    (λ same. subst (λ (f : List ℕ). IsFolderSynced f calls) (sym ((bytes_eq-Decides folder (string_bytes k)).0 same)) parts.0)
    (λ later. is_synced_in keys folder calls later parts.1)
    (or_cases (bytes_eq folder (string_bytes k)) (list_any (λ k. bytes_eq folder (string_bytes k)) keys) among)

synced_on : {Y : Type 0} (keys : List (String Y)) (key : String Y) (calls : List Raw) → IsFolderSynced (string_bytes key) calls → AreFoldersSynced (map string_bytes keys) calls → AreFoldersSynced (map string_bytes (keys ++ key ∷ [])) calls
synced_on [] key calls here are = and_from _ _ here refl
synced_on (k ∷ keys) key calls here are =
    let parts = and_parts (is_folder_synced (string_bytes k) (acts (effects calls))) (are_folders_synced (map string_bytes keys) (acts (effects calls))) are in
    and_from _ _ parts.0 (synced_on keys key calls here parts.1)

either_synced : {Y : Type 0} (is : Bool) (keys : List (String Y)) (key : String Y) (calls : List Raw) → IsFolderSynced (string_bytes key) calls → AreFoldersSynced (map string_bytes keys) calls → AreFoldersSynced (map string_bytes (if is then keys else keys ++ key ∷ [])) calls
either_synced true keys key calls here are = are
either_synced false keys key calls here are = synced_on keys key calls here are

-- an insertion, which may find no memory
pub put_in : {Y E : Type 0} (is : Bool) (keys new : List (String Y)) (key : String Y) (result : Result Bool E) (calls : List Raw) → IfOk result (λ _. new ≡ (if is then keys else keys ++ key ∷ [])) → OnErr result (new ≡ keys)
    → IsFolderSynced (string_bytes key) calls → AreFoldersSynced (map string_bytes keys) calls → AreFoldersSynced (map string_bytes new) calls
put_in {Y} is keys new key (Ok added) calls ok err here are = subst (λ (l : List (String Y)). AreFoldersSynced (map string_bytes l) calls) (sym ok) (either_synced is keys key calls here are)
put_in {Y} is keys new key (Err fault) calls ok err here are = subst (λ (l : List (String Y)). AreFoldersSynced (map string_bytes l) calls) (sym err) are

-- whether a sync of an entry failed, where it is noted so
pub entry_failing : {E : Type 0} (folder name : List ℕ) (ok failed was : Bool) (earlier steps : List Event) (result : Result (Unit {0}) E) → failed ≡ is_err result → IsFalse failed → OnOk result (IsFalse was) → (IsFalse was → IsFalse (has_failed earlier))
    → ok ≡ is_ok result → steps ≡ Entered folder name ok ∷ earlier → IsFalse (has_failed steps)
entry_failing folder name ok failed was earlier steps (Ok done) said none once before same noted =
    subst (λ (es : List Event). IsFalse (has_failed es)) (sym (noted ∙ ap (λ (b : Bool). Entered folder name b ∷ earlier) same)) (before once)
entry_failing folder name ok failed was earlier steps (Err fault) said none once before same noted = let bad : true ≡ false = sym said ∙ none in cc

-- the entry of a name stands in the folder that it leads through
pub stands_on_way : (folder name : List ℕ) (calls : List Event) → folder ≡ folder_of name → StandsIn name folder calls
stands_on_way folder name calls same = or_left _ _ ((bytes_eq-Decides folder (folder_of name)).1 same)

led_into : (end folder : List ℕ) → path_parent end ≡ Some folder → is_parent (path_parent end) folder ≡ true
led_into end folder is = ap (λ (o : Option (List ℕ)). is_parent o folder) is ∙ self folder

-- .. or in the one where its path ends
pub stands_where_led : (name end folder : List ℕ) (earlier steps : List Event) → steps ≡ Led name end ∷ earlier → path_parent end ≡ Some folder → StandsIn name folder steps
stands_where_led name end folder earlier steps noted is =
    subst (StandsIn name folder) (sym noted) (or_right _ _ (or_left _ _ (and_from _ _ (self name) (led_into end folder is))))

pub led_stands : {Y E : Type 0} (name end bytes : List ℕ) (result : Result (String Y) E) (earlier steps : List Event) → steps ≡ Led name bytes ∷ earlier → bytes ≡ end → IfOk result (λ folder. path_parent end ≡ Some (string_bytes folder))
    → IfOk result (λ folder. StandsIn name (string_bytes folder) steps)
led_stands name end bytes (Ok folder) earlier steps noted same is =
    stands_where_led name end (string_bytes folder) earlier steps (noted ∙ ap (λ (b : List ℕ). Led name b ∷ earlier) same) is
led_stands name end bytes (Err fault) earlier steps noted same is = is

-- a folder that was to be synced
pub sync_keeps : (folders : List (List ℕ)) (folder : List ℕ) (ok : Bool) (old new : List Raw) → SyncsFolder folder old new ok → AreFoldersSynced folders old → AreFoldersSynced folders new
sync_keeps folders folder true old new syncs before = syncs_keep folders folder true old new syncs before
sync_keeps folders folder false old new (inl syncs) before = syncs_keep folders folder false old new syncs before
sync_keeps folders folder false old new (inr asks) before = asked_synced folders old new asks before

pub synced_now : (folder : List ℕ) (ok : Bool) (old new : List Raw) → ok ≡ true → SyncsFolder folder old new ok → IsFolderSynced folder new
synced_now folder true old new said syncs = subst (λ (cs : List Raw). IsTrue (is_folder_synced folder (acts cs))) (sym syncs) (or_left _ _ (self folder))
synced_now folder false old new said syncs = absurd (let bad : false ≡ true = said in cc)

-- what holds of a record whether a failure was noted in it or none
pub noted_holds : {T : Type 0} (P : List Event → Type 0) (name : List ℕ) (answer : Result T DiskFault) (old new : Record) → OnOk answer (new ≡ old)
    → OnErr answer (new.events ≡ Failed name ∷ old.events) → P old.events → (P old.events → P (Failed name ∷ old.events)) → P new.events
noted_holds P name (Ok value) old new same noted held stays = subst (λ (r : Record). P r.events) (sym same) held
noted_holds P name (Err fault) old new same noted held stays = subst P (sym noted) (stays held)
