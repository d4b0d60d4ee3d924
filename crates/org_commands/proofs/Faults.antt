-- Answers of calls, and what their faults say of the files and of the accounts.
use Rattle.std.proofs.Common.{arith, ◌≡◌, ◌∙◌, Bool, false, true, Result, Ok, Err, refl, sym, subst}
use Rattle.std.proofs.lemmas.Grind.{common_steps}
use Rattle.org_fault.specs.declared.fault.Fault.{Fault}
use Rattle.org_fault.specs.declared.fault.Fault.TheVariants as fault
use Rattle.org_disk.specs.declared.disk.Disk.{Ghosts}
use Rattle.std.specs.Prelude.{◌↔◌, IfOk, IsErrOf, IsTrue}
use Rattle.org_disk.specs.CountsFailures.{CountsFailures}
use Rattle.org_disk.proofs.Accounting.{accounts_fine, accounts_none, accounts_then}
use Rattle.org_commands.specs.declared.command.RunFault.{RunFault}
use Rattle.org_fault.specs.declared.refusal.Refusal.{Refusal}
use Rattle.org_commands.specs.declared.command.RunFault.TheVariants.{Broken, Device, Refused}
use Rattle.org_commands.specs.Keeping.{fault_of}

-- one fault, in answers of two types
pub same_fault : {A B : Type 0} (fault other : RunFault) → ◌≡◌ {A = Result A RunFault} (Err fault) (Err other) → ◌≡◌ {A = Result B RunFault} (Err fault) (Err other)
same_fault fault other is = let one : fault ≡ other = cc in cc

-- an answer that is Ok is no fault
pub fine_is_no_fault : {A E : Type 0} (answer : Result A E) (x : A) (fault : E) → answer ≡ Ok x → IsErrOf answer fault → ⊥
fine_is_no_fault {A = A} {E = E} answer x fault is fell = let no : ◌≡◌ {A = Result A E} (Ok x) (Err fault) = sym is ∙ fell in cc

-- an answer that is one fault is no other
pub other_fault : {A : Type 0} (answer : Result A RunFault) (fault other : RunFault) → answer ≡ Err fault → (fault ≡ other → ⊥) → IsErrOf answer other → ⊥
other_fault {A = A} answer fault other given apart fell = let both : ◌≡◌ {A = Result A RunFault} (Err fault) (Err other) = sym given ∙ fell in let one : fault ≡ other = cc in apart one

-- of the value of an answer that is a fault nothing is said
pub no_value : {A : Type 0} (P : A → Type 0) (answer : Result A RunFault) (fault : RunFault) → answer ≡ Err fault → IfOk answer P
no_value {A = A} P answer fault given = subst (λ (r : Result A RunFault). IfOk r P) (sym given) tt

-- a fault that is neither the device's, nor that the files were broken
abbrev pub IsOwn : RunFault → Type 0
IsOwn fault = (fault ≡ Broken → ⊥) × (fault ≡ Device → ⊥)

-- .. as all are of a text's edits
pub planned_own : (met : Fault Refusal) → IsOwn (fault_of met)
planned_own fault.OutOfMemory = (λ no. cc, λ no. cc)
planned_own (fault.Refused why) = (λ no. cc, λ no. cc)

pub refused_own : (why : Refusal) → IsOwn (Refused why)
refused_own why = (λ no. cc, λ no. cc)

-- after an answer that is Ok nothing is broken
pub whole_behind : {A E : Type 0} (answer : Result A E) (x : A) (device : E) (broken : Bool) → answer ≡ Ok x → IsErrOf answer device ↔ IsTrue broken → broken ≡ false
whole_behind answer x device true is breaks = absurd (fine_is_no_fault answer x device is (breaks.1 refl))
whole_behind answer x device false is breaks = refl

module _ {D : Type 0} {g : Ghosts D} {old mid new : D} where
  -- the accounts of a call after one whose answer is Ok
  pub accounts_behind : {A Failed : Type 0} (answer : Result A RunFault) (x : A) → answer ≡ Ok x → CountsFailures g old mid (IsErrOf answer Device) → CountsFailures g mid new Failed
      → CountsFailures g old new Failed
  accounts_behind answer x is first second = accounts_then (accounts_fine (λ fell. fine_is_no_fault answer x Device is fell) first) second

  -- the accounts of a call, where another answer fails just where its own does, and the disk stays after it
  pub accounts_as : {Failed Fails : Type 0} → new ≡ mid → (Fails → Failed) → (Failed → Fails) → CountsFailures g old mid Failed → CountsFailures g old new Fails
  accounts_as {Fails = Fails} same back on call = grind (arith, common_steps)

-- the accounts of a call in memory
pub accounts_memory : {D Fails : Type 0} {g : Ghosts D} {old new : D} → new ≡ old → (Fails → ⊥) → CountsFailures g old new Fails
accounts_memory {g = g} {old = old} same fine = accounts_as same (λ fails. absurd (fine fails)) (λ no. absurd no) (accounts_none g old)
