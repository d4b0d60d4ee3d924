-- The accounts of a call of a set, of those of the calls that it made.
use Rattle.std.proofs.Common.{◌≡◌, refl, ◌∙◌, ap}
use Rattle.org_disk.specs.declared.disk.Disk.{Ghosts}
use Rattle.std.specs.Prelude.{Result, Err, IsErrOf, IsErrAnd}
use Rattle.std.proofs.lemmas.Result.{err_from_is_err_and}
use Rattle.org_disk.specs.CountsFailures.{CountsFailures}
use Rattle.org_disk.proofs.Accounting.{accounts_fine}
use Rattle.org_journal.proofs.Accounted.{accounts_quiet}
use Rattle.org_journal.specs.declared.fault.FindFault.{FindFault}
use Rattle.org_journal.specs.declared.fault.FindFault.TheVariants as find
use Rattle.org_fileset.specs.Opening.{fault_of}
use Rattle.org_fileset.specs.declared.open.OpenFault.{OpenFault}
use Rattle.org_fileset.specs.declared.open.OpenFault.TheVariants.{Device}

-- a fault that no call of the disk made, which a `?` passed on
pub accounts_other : {D : Type 0} {U E : Type 0} {e fault : E} {answer : Result U E} {g : Ghosts D} {old new : D}
    → IsErrAnd answer (λ y. y ≡ e) → (e ≡ fault → ⊥) → CountsFailures g old new ⊥ → CountsFailures g old new (IsErrOf answer fault)
accounts_other {answer = answer} is apart call =
    let p = err_from_is_err_and answer is in
    accounts_quiet (λ f. apart (cc (f, p.1, p.2))) call

-- the fault of a search for the journal, as an opening reports it
pub accounts_opened : {D : Type 0} {T U : Type 0} {answer : Result U OpenFault} {g : Ghosts D} {old new : D} (found : FindFault)
    → IsErrAnd answer (λ y. y ≡ fault_of found) → CountsFailures g old new (IsErrOf {T = T} (Err found) find.Device)
    → CountsFailures g old new (IsErrOf answer Device)
accounts_opened find.BadJournal is call = accounts_other is (λ e. cc e) (accounts_fine (λ f. cc f) call)
accounts_opened find.OutOfMemory is call = accounts_other is (λ e. cc e) (accounts_fine (λ f. cc f) call)
accounts_opened {answer = answer} find.Device is call =
    let p = err_from_is_err_and answer is in
    record {
      was_honest = call.was_honest;
      stays_honest = call.stays_honest;
      no_less = call.no_less;
      risen = λ failed. call.risen refl;
      equal = λ fine. absurd (fine (p.1 ∙ ap (λ e. Err e) p.2));
    }

-- the fault alone, as a refusal hands it on
pub accounts_fault : {D : Type 0} {T E : Type 0} {found fault : E} {g : Ghosts D} {old new : D}
    → CountsFailures g old new (IsErrOf {T = T} (Err found) fault) → CountsFailures g old new (found ≡ fault)
accounts_fault call = record {
  was_honest = call.was_honest;
  stays_honest = call.stays_honest;
  no_less = call.no_less;
  risen = λ is. call.risen (ap (λ e. Err e) is);
  equal = λ fine. call.equal (λ is. fine (cc is));
}
