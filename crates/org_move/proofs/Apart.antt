-- A heading that neither lies in an entry nor above it.
use Rattle.std.proofs.Common.{◌≡◌, ℕ, Bool, true, false, Option, Some, None, Ok, Err, refl, subst}
use Rattle.std.specs.Prelude.{Result, if◌then◌else◌}
use Rattle.org_fault.specs.declared.refusal.Refusal.{Refusal}
use Rattle.org_fault.specs.declared.refusal.Refusal.TheVariants.{AlreadyArchive, InsideItself}
use Rattle.org_outline.specs.Tree.{Document}
use Rattle.org_move.specs.Archive.{if_apart}
use Rattle.org_move.specs.Refile.{is_inside}

-- by the two tests: whether the heading lies in the entry, and whether it lies above it
abbrev tested : {A : Type 0} → Bool → Bool → A → Result A Refusal
tested inside below x = if inside then Err InsideItself else (if below then Err AlreadyArchive else Ok x)

tested_same : {A : Type 0} (inside below : Bool) (x y : A) → Ok y ≡ tested inside below x → x ≡ y
tested_same true below x y is = absurd cc
tested_same false true x y is = absurd cc
tested_same false false x y is = cc

tested_too : {A B : Type 0} (inside below : Bool) (x y : A) (new : B) → Ok y ≡ tested inside below x → tested inside below new ≡ Ok new
tested_too true below x y new is = absurd cc
tested_too false true x y new is = absurd cc
tested_too false false x y new is = refl

tested_fails : {A B : Type 0} (inside below : Bool) (x : A) (new : B) (defined : Result B Refusal) (why : Refusal)
    → defined ≡ tested inside below new → Err why ≡ tested inside below x → defined ≡ Err why
tested_fails true below x new defined why is fails =
    let same : InsideItself ≡ why = cc in
    subst (λ why. defined ≡ Err why) same is
tested_fails false true x new defined why is fails =
    let same : AlreadyArchive ≡ why = cc in
    subst (λ why. defined ≡ Err why) same is
tested_fails false false x new defined why is fails = absurd cc

-- what was handed on is what was asked about
pub apart_same : {A : Type 0} (d : Document) (i : ℕ) (up : Option ℕ) (x y : A) → Ok y ≡ if_apart d i up x → x ≡ y
apart_same d i None x y is = cc
apart_same d i (Some p) x y is = tested_same (is_inside d i p) (is_inside d p i) x y is

-- and another value is made there, too
pub apart_too : {A B : Type 0} (d : Document) (i : ℕ) (up : Option ℕ) (x y : A) (new : B) → Ok y ≡ if_apart d i up x → if_apart d i up new ≡ Ok new
apart_too d i None x y new is = refl
apart_too d i (Some p) x y new is = tested_too (is_inside d i p) (is_inside d p i) x y new is

-- the refusal is that of what is defined
pub apart_fails : {A B : Type 0} (d : Document) (i : ℕ) (up : Option ℕ) (x : A) (new : B) (defined : Result B Refusal) (why : Refusal)
    → defined ≡ if_apart d i up new → Err why ≡ if_apart d i up x → defined ≡ Err why
apart_fails d i None x new defined why is fails = absurd cc
apart_fails d i (Some p) x new defined why is fails =
    tested_fails (is_inside d i p) (is_inside d p i) x new defined why is fails
