-- The accounts of a call of this crate, of those of the calls that it made.
use Rattle.std.proofs.Common.{arith, ℕ, ◌≤◌, ◌≡◌, true, false, true≢false, refl, sym}
use Rattle.std.proofs.lemmas.Grind.{common_steps}
use Rattle.std.specs.Prelude.{Result, Ok, Err, IsErrOf, IsErrAnd}
use Rattle.org_disk.specs.CountsFailures.{CountsFailures}
use Rattle.org_disk.specs.Disk.{HasRisen}
use Rattle.org_disk.specs.declared.disk.Disk.{Ghosts}
use Rattle.org_disk.proofs.Accounting.{accounts_fine, accounts_then}
use Rattle.std.proofs.lemmas.Result.{err_from_is_err_and}

-- failure said in other words
accounts_as : {D : Type 0} {g : Ghosts D} {old new : D} {F G : Type 0} → (F → G) → (G → F)
    → CountsFailures g old new F → CountsFailures g old new G
accounts_as forth back call = grind (arith, common_steps)

-- nothing failed, and no failure is reported
pub accounts_quiet : {D : Type 0} {g : Ghosts D} {old new : D} {Failed : Type 0} → (Failed → ⊥)
    → CountsFailures g old new ⊥ → CountsFailures g old new Failed
accounts_quiet fine call = accounts_as (λ none. absurd none) fine call

pub accounts_fine_test : {D : Type 0} {g : Ghosts D} {old new : D}
    → CountsFailures g old new ⊥ → CountsFailures g old new (false ≡ true)
accounts_fine_test call = accounts_quiet (λ failed. true≢false (sym failed)) call

pub accounts_answered : {D : Type 0} {T E : Type 0} {x : T} {e : E} {g : Ghosts D} {old new : D}
    → CountsFailures g old new ⊥ → CountsFailures g old new (IsErrOf (Ok x) e)
accounts_answered call = accounts_quiet (λ failed. cc failed) call

-- a fault that a `?` passed on
pub accounts_passed : {D : Type 0} {T U E : Type 0} {e fault : E} {answer : Result U E} {g : Ghosts D} {old new : D}
    → IsErrAnd answer (λ y. y ≡ e) → CountsFailures g old new (IsErrOf {T = T} (Err e) fault) → CountsFailures g old new (IsErrOf answer fault)
accounts_passed {answer = answer} is call = grind (arith, common_steps)

still_risen : {before mid now : ℕ} → HasRisen before mid → mid ≤ now → HasRisen before now
still_risen risen more = grind (arith, common_steps)

-- a call that failed, and that is reported
pub accounts_failed : {D : Type 0} {g : Ghosts D} {old new : D} {Failed : Type 0} → Failed
    → CountsFailures g old new (true ≡ true) → CountsFailures g old new Failed
accounts_failed failed call = accounts_as (λ f. failed) (λ f. refl) call

-- a call that failed, and another one after it, failed or not
pub accounts_still : {D : Type 0} {g : Ghosts D} {old mid new : D} {Failed After : Type 0} → Failed
    → CountsFailures g old mid Failed → CountsFailures g mid new After → CountsFailures g old new Failed
accounts_still {g = g} {new = new} failed first second = record {
  was_honest = λ ended. first.was_honest (second.was_honest ended);
  stays_honest = λ truthful honest. second.stays_honest truthful (first.stays_honest truthful honest);
  no_less = omega (arith, first.no_less, second.no_less);
  risen = λ _. still_risen (first.risen failed) second.no_less;
  equal = λ none. absurd (none failed);
}

-- the fault of a call that failed, which a `?` made another
pub accounts_reported : {D : Type 0} {U E : Type 0} {fault : E} {answer : Result U E} {g : Ghosts D} {old new : D}
    → IsErrAnd answer (λ y. y ≡ fault) → CountsFailures g old new (true ≡ true) → CountsFailures g old new (IsErrOf answer fault)
accounts_reported {answer = answer} is call =
    let p = err_from_is_err_and answer is in
    accounts_failed (cc (p.1, p.2)) call

-- calls that didn't fail, and others after them
pub accounts_after : {D : Type 0} {T E : Type 0} {x : T} {e : E} {g : Ghosts D} {old mid new : D} {Failed : Type 0}
    → CountsFailures g old mid (IsErrOf (Ok x) e) → CountsFailures g mid new Failed → CountsFailures g old new Failed
accounts_after first second = accounts_then (accounts_fine (λ failed. cc failed) first) second

-- what a fault isn't
