-- What an opening says of the journal and of the sizes of its files.
use Rattle.std.proofs.Common.{arith, ◌≡◌, ℕ, List, Err, Result, sym, subst, Ok}
use Rattle.std.proofs.lemmas.Grind.{common_steps}
use Rattle.std.specs.Prelude.{IsErrAnd, IsErrOf}
use Rattle.org_journal.specs.Recovered.{Image, contents}
use Rattle.org_fileset.specs.Opening.{AreAllNames, IsReason, IsFaultOfRecovery, IsAnswer, HaveSizes}
use Rattle.org_fileset.specs.declared.open.OpenFault.{OpenFault}
use Rattle.org_fileset.specs.declared.open.OpenFault.TheVariants.{TooManyFiles, BadJournal, Changed, Outside, TooLarge, Device, OutOfMemory}
use Rattle.org_disk.specs.Disk.{FileState}
use Rattle.org_fileset.specs.Recovery.{IsReopened}

-- the answer that a `?` passed on
passed : {U E : Type 0} {e : E} (answer : Result U E) → IsErrAnd answer (λ y. y ≡ e) → answer ≡ Err e
passed answer is = grind (arith, common_steps)

-- a recovery says no number of names
pub recovered_few : {U : Type 0} (Honest : Type 0) (before now : Image) {answer : Result U OpenFault} (fault : OpenFault) → IsErrAnd answer (λ y. y ≡ fault)
    → IsFaultOfRecovery Honest before now fault → IsErrOf answer TooManyFiles → ⊥
recovered_few Honest before now {answer = answer} TooManyFiles is why e = why
recovered_few Honest before now {answer = answer} BadJournal is why e = cc (e, passed answer is)
recovered_few Honest before now {answer = answer} (Changed name) is why e = cc (e, passed answer is)
recovered_few Honest before now {answer = answer} (Outside name) is why e = cc (e, passed answer is)
recovered_few Honest before now {answer = answer} (TooLarge name) is why e = why
recovered_few Honest before now {answer = answer} Device is why e = cc (e, passed answer is)
recovered_few Honest before now {answer = answer} OutOfMemory is why e = cc (e, passed answer is)

-- its fault, as an opening reports it
pub answer_recovered : {Honest : Type 0} (before now : Image) (names : List (List ℕ)) (answer : Result (Unit {0}) OpenFault) (fault : OpenFault) → IsErrAnd answer (λ y. y ≡ fault)
    → IsFaultOfRecovery Honest before now fault → Honest → IsAnswer before now names answer
answer_recovered {Honest} before now names answer fault is why honest = subst (IsAnswer before now names) (sym (passed answer is)) (reported fault why)
  where
    reported : (fault : OpenFault) → IsFaultOfRecovery Honest before now fault → IsAnswer before now names (Err fault)
    reported BadJournal why = why honest
    reported (Changed name) why = why honest
    reported (Outside name) why = why honest
    reported Device why = tt
    reported OutOfMemory why = tt
    reported TooManyFiles why = absurd why
    reported (TooLarge name) why = absurd why

-- the sizes that are asked for once a record was brought to its end
pub answer_sized : (old mid new : List ℕ → FileState) (names : List (List ℕ)) (answer : Result (Unit {0}) OpenFault) → IsReopened old mid → new ≡ mid → HaveSizes (contents mid) names answer
    → IsAnswer (contents old) (contents new) names answer
answer_sized old mid new names answer made same sizes = subst (λ (files : List ℕ → FileState). IsAnswer (contents old) (contents files) names answer) (sym same) (sized answer sizes)
  where
    sized : (answer : Result (Unit {0}) OpenFault) → HaveSizes (contents mid) names answer → IsAnswer (contents old) (contents mid) names answer
    sized (Ok done) sizes = sizes
    sized (Err TooManyFiles) sizes = absurd sizes
    sized (Err BadJournal) sizes = absurd sizes
    sized (Err (Changed name)) sizes = absurd sizes
    sized (Err (Outside name)) sizes = absurd sizes
    sized (Err (TooLarge name)) sizes = (sizes, record { files = made.recovered_then; journal = made.journal })
    sized (Err Device) sizes = tt
    sized (Err OutOfMemory) sizes = tt

-- why names are refused
pub names_reason : (given : List (List ℕ)) (honest : Type 0) (before now : Image) (fault : OpenFault) → AreAllNames given (Err fault) → IsReason given honest before now fault
names_reason given honest before now TooManyFiles why = why
names_reason given honest before now OutOfMemory why = tt
names_reason given honest before now BadJournal why = absurd why
names_reason given honest before now (Changed name) why = absurd why
names_reason given honest before now (Outside name) why = absurd why
names_reason given honest before now (TooLarge name) why = absurd why
names_reason given honest before now Device why = absurd why

pub names_apart : (given : List (List ℕ)) (fault : OpenFault) → AreAllNames given (Err fault) → fault ≡ Device → ⊥
names_apart given TooManyFiles why is = cc is
names_apart given OutOfMemory why is = cc is
names_apart given BadJournal why is = why
names_apart given (Changed name) why is = why
names_apart given (Outside name) why is = why
names_apart given (TooLarge name) why is = why
names_apart given Device why is = why
