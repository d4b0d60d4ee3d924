-- Where a value says that a subtree goes.
use Rattle.std.proofs.Common.{arith, ◌≡◌, ◌⊎◌, inl, inr, ℕ, true, false, Bool, ◌&&◌, List, Some, None, Ok, Err, refl, sym, subst, ◌∙◌, ap, Option}
use Rattle.std.proofs.lemmas.Grind.{common_steps}
use Rattle.std.specs.Prelude.{IfErr, if◌then◌else◌, Result}
use Rattle.std.specs.Str.{is_utf8}
use Rattle.org_fault.specs.declared.refusal.Refusal.TheVariants.{BadLocation, NoSuchFile}
use Rattle.org_disk.specs.Names.{is_archive_name, is_file_name}
use Rattle.org_outline.specs.States.{Keywords}
use Rattle.org_move.specs.Location.{Destination, Halves, Heading, and_file, file_named, halves_of, heading_of, location_at, value_for, with_file}
use Rattle.org_fault.specs.declared.fault.Fault.{Fault}
use Rattle.org_fault.specs.declared.refusal.Refusal.{Refusal}
use Rattle.org_move.specs.Answers.{IsNameOf, IsPlaceAs}
use Rattle.org_fault.specs.declared.fault.Fault.TheVariants.{OutOfMemory, Refused}
use Rattle.std.specs.Option.{option_map}

-- what was read
pub read_is : {A B : Type 0} (view : A → B) (o : Option A) (x : A) (defined : Option B) → option_map view o ≡ defined → o ≡ Some x → defined ≡ Some (view x)
read_is view o x defined is some = sym is ∙ ap (option_map view) some

pub located : (states s : Keywords) (name t value : List ℕ) (i : ℕ) (halves : Halves) (heading : Heading) (b : Bool)
    → b ≡ is_archive_name name → b ≡ false → value ≡ value_for t i → halves_of value ≡ Some halves → s ≡ states → heading_of s halves.heading ≡ Some heading
    → location_at states name t i ≡ and_file (option_map (λ (file : List ℕ). let to : Destination = record { file = file; level = heading.level; title = heading.title } in to) (file_named name halves.file))
located states s name t value i halves heading b b_is own value_is cut same read = grind (arith, common_steps)

-- only the file's way and name may be wrong after the value was read
abbrev pub IsOfFile : Refusal → Type 0
IsOfFile why = (why ≡ NoSuchFile) ⊎ (why ≡ BadLocation)

late : (to : Destination) (b : Bool) → IfErr (if b then Ok to else Err NoSuchFile) IsOfFile
late to true = tt
late to false = inl refl

no_name : (to : Destination) → IfErr (with_file to) IsOfFile
no_name to = late to (is_utf8 to.file && is_file_name to.file)

pub no_memory : (to : Option Destination) → IfErr (and_file to) IsOfFile
no_memory None = inr refl
no_memory (Some to) = no_name to

named_fault : (bytes : List ℕ) (to : Destination) (fault : Fault Refusal) → bytes ≡ to.file → IsNameOf bytes (Err fault) → IsPlaceAs (with_file to) (Err fault)
named_fault bytes to OutOfMemory same gives = no_name to
named_fault bytes to (Refused why) same gives =
    let none : (is_utf8 to.file && is_file_name to.file) ≡ false = ap (λ b. is_utf8 b && is_file_name b) (sym same) ∙ gives.1 in
    rw (none, gives.0) refl

pub name_fault : (bytes : List ℕ) (to : Destination) (defined : Result Destination Refusal) (r : Result (List ℕ) (Fault Refusal)) (fault : Fault Refusal)
    → defined ≡ with_file to → bytes ≡ to.file → IsNameOf bytes r → r ≡ Err fault → IsPlaceAs defined (Err fault)
name_fault bytes to defined r fault is same gives was =
    subst (λ d. IsPlaceAs d (Err fault)) (sym is) (named_fault bytes to fault same (subst (IsNameOf bytes) was gives))
