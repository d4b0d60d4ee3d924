-- Calls that only look, one after another.
use Rattle.std.proofs.Common.{◌≡◌, ◌∙◌, ap, sym, refl, subst, ℕ, Bool, true, false, List, [], ◌∷◌, ◌++◌, Option, Some, None, Result, Ok, Err, IfOk, IfSome, OnErr}
use Rattle.std.specs.Prelude.{IfErr, IfNone, IsErrAnd, All}
use Rattle.std.proofs.lemmas.List.{append_assoc}
use Rattle.std.proofs.lemmas.List.Elements.{All-append, All-cons, All-head, All-nil, All-tail}
use Rattle.org_folder.specs.Calls.{Event, IsHeld, IsLook, OnlyLooks, failed_calls, with_entries}
use Rattle.org_folder.specs.Calls.Event.{Filled, Locked, Above, Alone, Entry, Listed, Folder, There, Led, Unseen, Absent, Length, Read, Write, Again, Cut, Sync, Made, MadeFolder, Entered, Failed}
use Rattle.org_folder.specs.declared.system.Found.{Found}
use Rattle.org_folder.specs.declared.list.ListFault.{ListFault}

pub no_look : (calls : List Event) → OnlyLooks calls calls
no_look calls = record { calls = []; look = All-nil IsLook; after = refl }

pub one_look : (event : Event) (old new : List Event) → IsLook event → new ≡ event ∷ old → OnlyLooks old new
one_look event old new is recorded = record { calls = event ∷ []; look = All-cons IsLook event [] is (All-nil IsLook); after = recorded }

pub looks_on : (old mid new : List Event) → OnlyLooks old mid → OnlyLooks mid new → OnlyLooks old new
looks_on old mid new first second = record {
  calls = second.calls ++ first.calls;
  look = All-append IsLook _ _ second.look first.look;
  after = second.after ∙ ap (λ l. second.calls ++ l) first.after ∙ sym (append_assoc second.calls first.calls old);
}

pub same_look : (old mid new : List Event) → OnlyLooks old mid → new ≡ mid → OnlyLooks old new
same_look old mid new first is = subst (OnlyLooks old) (sym is) first

-- what is answered of a name
pub look_made : (name : List ℕ) (old new : List Event) (result : Result (Option Found) ListFault)
    → IfOk result (λ found. IfSome found (λ found. new ≡ There name found.node.device found.node.number found.is_plain found.is_link ∷ old))
    → IfOk result (λ found. IfNone found (new ≡ Absent name ∷ old)) → OnErr result (new ≡ Unseen name ∷ old) → OnlyLooks old new
look_made name old new (Ok (Some found)) there absent err = one_look (There name found.node.device found.node.number found.is_plain found.is_link) old new tt there
look_made name old new (Ok None) there absent err = one_look (Absent name) old new tt absent
look_made name old new (Err fault) there absent err = one_look (Unseen name) old new tt err

entries_look : (names : List (List ℕ)) (old : List Event) → OnlyLooks old (with_entries names old)
entries_look [] old = no_look old
entries_look (name ∷ names) old = looks_on old (Entry name ∷ old) (with_entries names (Entry name ∷ old)) (one_look (Entry name) old (Entry name ∷ old) tt refl) (entries_look names (Entry name ∷ old))

listing_looks : (folder : List ℕ) (names : List (List ℕ)) (old new : List Event) → new ≡ Listed folder true ∷ with_entries names old → OnlyLooks old new
listing_looks folder names old new is = looks_on old (with_entries names old) new (entries_look names old) (one_look (Listed folder true) (with_entries names old) new tt is)

-- a listing that may have failed
pub list_looks : {T F : Type 0} (names : T → List (List ℕ)) (folder : List ℕ) (old new : List Event) (result : Result (Option T) F)
    → IfOk result (λ found. IfSome found (λ t. new ≡ Listed folder true ∷ with_entries (names t) old)) → IfOk result (λ found. IfNone found (new ≡ Listed folder false ∷ old)) → OnErr result (new ≡ old)
    → OnlyLooks old new
list_looks names folder old new (Ok (Some t)) some none err = listing_looks folder (names t) old new some
list_looks names folder old new (Ok None) some none err = one_look (Listed folder false) old new tt none
list_looks names folder old new (Err fault) some none err = same_look old old new (no_look old) err

-- a look at a folder that may have failed
pub tried_looks : {F : Type 0} (folder : List ℕ) (old new : List Event) (result : Result Bool F) → IfOk result (λ own. new ≡ Folder folder own ∷ old) → OnErr result (new ≡ old) → OnlyLooks old new
tried_looks folder old new (Ok own) ok err = one_look (Folder folder own) old new tt ok
tried_looks folder old new (Err fault) ok err = same_look old old new (no_look old) err

-- a folder that was locked is locked after calls too
held_by : (event : Event) (calls : List Event) → IsHeld calls → IsHeld (event ∷ calls)
held_by (Filled path) calls held = held
held_by (Locked path) calls held = refl
held_by (Above store) calls held = held
held_by Alone calls held = held
held_by (Folder folder own) calls held = held
held_by (Entry name) calls held = held
held_by (Listed folder ok) calls held = held
held_by (There name device number plain link) calls held = held
held_by (Led name end) calls held = held
held_by (Unseen name) calls held = held
held_by (Made name ok) calls held = held
held_by (MadeFolder folder ok) calls held = held
held_by (Entered folder name ok) calls held = held
held_by (Absent name) calls held = held
held_by (Length name n) calls held = held
held_by (Read name from bytes) calls held = held
held_by (Again name from bytes ok) calls held = held
held_by (Failed name) calls held = held
held_by (Write name from bytes ok) calls held = held
held_by (Cut name n ok) calls held = held
held_by (Sync name ok) calls held = held

pub held_after : (calls old : List Event) → IsHeld old → IsHeld (calls ++ old)
held_after [] old held = held
held_after (event ∷ calls) old held = held_by event (calls ++ old) (held_after calls old held)

-- a look is no call that failed
fine_by : (event : Event) (calls : List Event) → IsLook event → failed_calls (event ∷ calls) ≡ failed_calls calls
fine_by (Filled path) calls is = refl
fine_by (Locked path) calls is = refl
fine_by (Entry name) calls is = refl
fine_by (Above store) calls is = refl
fine_by Alone calls is = refl
fine_by (Folder folder own) calls is = refl
fine_by (Listed folder ok) calls is = refl
fine_by (There name device number plain link) calls is = refl
fine_by (Led name end) calls is = refl
fine_by (Unseen name) calls is = refl
fine_by (Absent name) calls is = refl
fine_by (Length name n) calls is = refl
fine_by (Read name from bytes) calls is = refl
fine_by (Made name ok) calls is = absurd is
fine_by (MadeFolder folder ok) calls is = absurd is
fine_by (Entered folder name ok) calls is = absurd is
fine_by (Again name from bytes ok) calls is = absurd is
fine_by (Failed name) calls is = absurd is
fine_by (Write name from bytes ok) calls is = absurd is
fine_by (Cut name n ok) calls is = absurd is
fine_by (Sync name ok) calls is = absurd is

fine_after : (calls old : List Event) → All IsLook calls → failed_calls (calls ++ old) ≡ failed_calls old
fine_after [] old are = refl
fine_after (event ∷ calls) old are = fine_by event (calls ++ old) (All-head IsLook event calls are) ∙ fine_after calls old (All-tail IsLook event calls are)

pub fine_on : (old new : List Event) → OnlyLooks old new → failed_calls new ≡ failed_calls old
fine_on old new looks = ap (λ (es : List Event). failed_calls es) looks.after ∙ fine_after looks.calls old looks.look

pub held_on : (old new : List Event) → OnlyLooks old new → IsHeld old → IsHeld new
held_on old new looks held = subst IsHeld (sym looks.after) (held_after looks.calls old held)

-- what a `?` passed on
pub fault_passed : {U E : Type 0} (P : E → Type 0) (answer : Result U E) (fault : E) → IsErrAnd answer (λ y. y ≡ fault) → P fault → IfErr answer P
fault_passed P (Ok x) fault is held = absurd is
fault_passed P (Err f) fault is held = subst P (sym is) held
