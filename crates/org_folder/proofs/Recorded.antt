-- What a call that is in the record did to the files and to their past.
use Rattle.std.proofs.Common.{◌≡◌, ◌≢◌, ℕ, List, ◌∷◌, length, true, false, IsErr, Result, Ok, Err, sym, ◌∙◌, ap, subst, inl}
use Rattle.org_disk.specs.Disk.{FileState, IsImage, AreImages, AreLeftBy, Changes, IsLeftBy, Passes}
use Rattle.org_disk.specs.declared.disk.DiskFault.{DiskFault}
use Rattle.org_disk.proofs.Moments.{Image, passes_as, passes_then}
use Rattle.org_folder.specs.Calls.{Event, World, files, changed, AreRight, LeftSince, Looks, Does}
use Rattle.org_folder.specs.CallsLaws.{changed_here, changed_other, own_image}

abbrev Answer : Type 0
Answer = Result (Unit {0}) DiskFault

-- Calls that change a file

module _ (world : World) (event : Event) (applied : FileState → FileState) (name : List ℕ) (old : List Event) (is : files world (event ∷ old) ≡ changed name applied (files world old)) where
  here : files world (event ∷ old) name ≡ applied (files world old name)
  here = ap (λ (fs : List ℕ → FileState). fs name) is ∙ changed_here name applied (files world old)

  elsewhere : (other : List ℕ) → other ≢ name → files world (event ∷ old) other ≡ files world old other
  elsewhere other apart = ap (λ (fs : List ℕ → FileState). fs other) is ∙ changed_other name applied (files world old) other apart

  still : (image : Image) → AreImages (files world (event ∷ old)) image → (other : List ℕ) → other ≢ name → IsImage (files world old other) (image other)
  still image now other apart = subst (λ f. IsImage f (image other)) (elsewhere other apart) (now other)

-- Calls that didn't come to it

looks_left : (world : World) (effect : FileState → FileState) (name : List ℕ) (old new : List Event) → Looks world old new
    → Passes (length old) (length new) (LeftSince world old) (LeftSince world new) (AreLeftBy effect name (files world old))
looks_left world effect name old new looks = passes_as looks.time (λ image now. record { here = inl (now name); others = λ other apart. now other })

-- a fault before the call
does_nothing : (world : World) (effect : FileState → FileState) (name : List ℕ) (old new : List Event) (result : Answer) → IsErr result → AreRight world old
    → Looks world old new → Does world effect name old new result
does_nothing world effect name old new (Ok done) failed right looks = let bad : false ≡ true = failed in cc
does_nothing world effect name old new (Err fault) failed right looks = record {
  changes = record {
    ok = tt;
    err = subst (λ f. IsLeftBy effect (files world old name) f) (sym (ap (λ (fs : List ℕ → FileState). fs name) looks.same))
        (record { content = inl (own_image world old right name); images = λ bytes left. inl left });
    others = λ other apart. ap (λ (fs : List ℕ → FileState). fs other) looks.same;
  };
  time = looks_left world effect name old new looks;
}

-- a fault before the call, after a look or none
pub does_not_come : (world : World) (effect : FileState → FileState) (name : List ℕ) (old new : List Event) (result : Answer) → IsErr result → AreRight world old × Looks world old new
    → AreRight world old × Does world effect name old new result
does_not_come world effect name old new result failed looks = (looks.0, does_nothing world effect name old new result failed looks.0 looks.1)

-- a look, and then a call on a file
pub looks_does : (world : World) (effect : FileState → FileState) (name : List ℕ) (old mid new : List Event) (result : Answer) → Looks world old mid → Does world effect name mid new result → Does world effect name old new result
looks_does world effect name old mid new result looks does = record {
  changes = subst (λ (fs : List ℕ → FileState). Changes effect name fs (files world new) result) looks.same does.changes;
  time = passes_then (looks_left world effect name old mid looks) does.time
      (λ image left. subst (λ (fs : List ℕ → FileState). AreLeftBy effect name fs image) looks.same left);
}
