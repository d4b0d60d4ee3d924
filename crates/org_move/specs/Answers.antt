-- What a call answers that moves a subtree, or says where it goes.
use Rattle.std.specs.Prelude.{◌≡◌, ◌⊎◌, ℕ, List, Result, Ok, Err, IsOk, IfErr, true, false, ◌&&◌}
use Rattle.std.specs.Str.{is_utf8}
use Rattle.org_fault.specs.declared.fault.Fault.{Fault}
use Rattle.org_fault.specs.declared.fault.Fault.TheVariants.{OutOfMemory, Refused}
use Rattle.org_fault.specs.declared.refusal.Refusal.{Refusal}
use Rattle.org_fault.specs.declared.refusal.Refusal.TheVariants.{BadLocation, NoSuchFile}
use Rattle.org_disk.specs.Names.{is_file_name}
use Rattle.org_move.specs.Location.{Destination}

-- what was made fits the value that is defined; a refusal is the one that is defined, and memory
-- runs out only where a value is
abbrev pub IsMadeAs : {A B : Type 0} → Result B Refusal → (B → A → Type 0)
    → Result A (Fault Refusal) → Type 0
IsMadeAs {A} {B} defined Fits (Ok made) = (value : B) × (defined ≡ Ok value) × Fits value made
IsMadeAs {A} {B} defined Fits (Err OutOfMemory) = IsOk defined
IsMadeAs {A} {B} defined Fits (Err (Refused why)) = defined ≡ Err why

-- the same, of the place to which a subtree goes; but memory may be wanted before it is known that
-- no file has the name, or that the way to it leads above the store
abbrev pub IsPlaceAs : Result Destination Refusal → Result Destination (Fault Refusal) → Type 0
IsPlaceAs defined (Ok made) = defined ≡ Ok made
IsPlaceAs defined (Err OutOfMemory) =
    IfErr defined (λ why. (why ≡ NoSuchFile) ⊎ (why ≡ BadLocation))
IsPlaceAs defined (Err (Refused why)) = defined ≡ Err why

-- the bytes are the name of a file that was made; NoSuchFile exactly where they are none
abbrev pub IsNameOf : List ℕ → Result (List ℕ) (Fault Refusal) → Type 0
IsNameOf bytes (Ok name) = (name ≡ bytes) × ((is_utf8 bytes && is_file_name bytes) ≡ true)
IsNameOf bytes (Err OutOfMemory) = Unit {0}
IsNameOf bytes (Err (Refused why)) =
    (why ≡ NoSuchFile) × ((is_utf8 bytes && is_file_name bytes) ≡ false)
