-- Calls that only read: handed on, and one after another.
use Rattle.std.proofs.Common.{arith, ◌≡◌, ◌∙◌, ◌⊎◌, false, Result, Ok, Err, refl, sym, ap, subst}
use Rattle.std.proofs.lemmas.Grind.{common_steps}
use Rattle.org_disk.specs.declared.disk.Disk.{Ghosts}
use Rattle.std.specs.Prelude.{◌↔◌, IsErrOf, IsTrue}
use Rattle.org_disk.specs.CountsFailures.{CountsFailures, LooksOver}
use Rattle.org_fileset.specs.declared.fault.SetFault.{SetFault}
use Rattle.org_fileset.specs.declared.fault.SetFault.TheVariants as set
use Rattle.org_fault.specs.declared.refusal.Refusal.{Refusal}
use Rattle.org_commands.specs.declared.command.RunFault.{RunFault}
use Rattle.org_commands.specs.declared.command.RunFault.TheVariants.{Device, Broken, OutOfMemory, Refused}
use Rattle.org_commands.specs.Files.{OpenFiles, StaysInMemory}
use Rattle.org_commands.specs.Keeping.{Reads, fault_of_set}
use Rattle.org_commands.specs.Reading.{OnlyReads, ReadsFiles}
use Rattle.org_commands.specs.Session.{Session, StoreView, view_over}
use Rattle.org_commands.proofs.Faults.{IsOwn, fine_is_no_fault, other_fault, refused_own}
use Rattle.org_commands.proofs.Held.{keeps_same, keeps_then}
use Rattle.org_commands.proofs.Sessions.{reads_fault, view_same}

-- the accounts of a call, where another answer fails just where its own does
accounts_as : {D : Type 0} {g : Ghosts D} {old new : D} {Failed Fails : Type 0} → (Fails → Failed) → (Failed → Fails)
    → CountsFailures g old new Failed → CountsFailures g old new Fails
accounts_as back on call = grind (arith, common_steps)

-- a call that did nothing
pub only_reads_none : {D A : Type 0} {g : Ghosts D} {old : OpenFiles D} {answer : Result A RunFault}
    → old.broken ≡ false → (IsErrOf answer Broken → ⊥) → (IsErrOf answer Device → ⊥) → OnlyReads g old old answer
only_reads_none {g = g} {old = old} unbroken works stays = grind (arith, common_steps)

-- .. and answered a refusal
pub only_reads_refused : {D A : Type 0} {g : Ghosts D} {old : OpenFiles D} → old.broken ≡ false → (why : Refusal) (answer : Result A RunFault) → answer ≡ Err (Refused why) → OnlyReads g old old answer
only_reads_refused unbroken why answer given =
    only_reads_none unbroken (other_fault answer (Refused why) Broken given (refused_own why).0) (other_fault answer (Refused why) Device given (refused_own why).1)

-- a call whose edits are taken back
pub only_reads_undone : {D A : Type 0} {g : Ghosts D} {old mid new : OpenFiles D} {answer : Result A RunFault} → StaysInMemory mid new → new.held.before ≡ mid.held.before → OnlyReads g old mid answer
    → OnlyReads g old new answer
only_reads_undone {D = D} {g = g} {old = old} {answer = answer} memory before call = grind (arith, common_steps)

-- a call of the set of files that only looks at the disk, and an answer that is the device's fault
-- just where the set's is
pub only_reads_set : {D X A : Type 0} {g : Ghosts D} {old new : OpenFiles D} {answer : Result A RunFault}
    (result : Result X SetFault) → (IsErrOf answer Broken → ⊥) → (IsErrOf answer Device → IsErrOf result set.Device) → (IsErrOf result set.Device → IsErrOf answer Device)
    → old.broken ≡ false → new.names ≡ old.names → new.held.before.dirty ≡ old.held.before.dirty → (g.honest new.disk → LooksOver g old.disk new.disk)
    → IsTrue new.broken ↔ (IsTrue old.broken ⊎ IsErrOf result set.Device) → CountsFailures g old.disk new.disk (IsErrOf result set.Device)
    → OnlyReads g old new answer
only_reads_set result works back on unbroken names dirty_files looks breaks accounts = grind (arith, common_steps)

-- a fault of the set, and the files' own
module _ {X A : Type 0} (result : Result X SetFault) (answer : Result A RunFault) where
  pub set_works : (fault : SetFault) → result ≡ Err fault → answer ≡ Err (fault_of_set fault) → (IsErrOf result set.Broken → ⊥) → IsErrOf answer Broken → ⊥
  set_works set.OutOfMemory was is whole fell = cc
  set_works set.Device was is whole fell = cc
  set_works set.Broken was is whole fell = whole was

  pub set_back : (fault : SetFault) → result ≡ Err fault → answer ≡ Err (fault_of_set fault) → IsErrOf answer Device → IsErrOf result set.Device
  set_back set.OutOfMemory was is fell = absurd (cc)
  set_back set.Device was is fell = was
  set_back set.Broken was is fell = absurd (cc)

  pub set_on : (fault : SetFault) → result ≡ Err fault → answer ≡ Err (fault_of_set fault) → IsErrOf result set.Device → IsErrOf answer Device
  set_on set.OutOfMemory was is fell = absurd (cc)
  set_on set.Device was is fell = is
  set_on set.Broken was is fell = absurd (cc)

-- one fault, in answers of two types
same_fault : {A B : Type 0} (fault other : RunFault) → ◌≡◌ {A = Result A RunFault} (Err fault) (Err other) → ◌≡◌ {A = Result B RunFault} (Err fault) (Err other)
same_fault fault other is = let one : fault ≡ other = cc in cc

module _ {D : Type 0} {g : Ghosts D} {A B : Type 0} where
  -- a call, and another answer that has these faults just where its own has
  only_reads_as : {old new : OpenFiles D} {first : Result A RunFault} {second : Result B RunFault} → (IsErrOf second Broken → IsErrOf first Broken) → (IsErrOf second Device → IsErrOf first Device)
      → (IsErrOf first Device → IsErrOf second Device) → OnlyReads g old new first → OnlyReads g old new second
  only_reads_as broken back on call = grind (arith, common_steps)

  -- its fault, handed on
  pub only_reads_fault : {old new : OpenFiles D} {fault : RunFault} {answer : Result B RunFault} → answer ≡ Err fault
      → OnlyReads {A = A} g old new (Err fault) → OnlyReads g old new answer
  only_reads_fault {fault = fault} is call =
      only_reads_as (λ broken. same_fault fault Broken (sym is ∙ broken)) (λ fell. same_fault fault Device (sym is ∙ fell)) (λ fell. is ∙ same_fault fault Device fell) call

  -- an answer of its own, after a call that didn't fail
  pub only_reads_fine : {old new : OpenFiles D} {x : A} {answer : Result B RunFault} → (IsErrOf answer Broken → ⊥) → (IsErrOf answer Device → ⊥)
      → OnlyReads g old new (Ok x) → OnlyReads g old new answer
  only_reads_fine works stays call = only_reads_as (λ broken. absurd (works broken)) (λ fell. absurd (stays fell)) (λ fell. absurd (cc)) call

  -- an answer that is Ok, or a fault of its own, after a call that didn't fail
  pub only_reads_ok : {old new : OpenFiles D} {x : A} {y : B} → OnlyReads g old new (Ok x) → OnlyReads g old new (Ok y)
  only_reads_ok {y = y} call = only_reads_fine (fine_is_no_fault (Ok y) y Broken refl) (fine_is_no_fault (Ok y) y Device refl) call

  pub only_reads_own : {old new : OpenFiles D} {x : A} (answer : Result B RunFault) (fault : RunFault) → answer ≡ Err fault → IsOwn fault → OnlyReads g old new (Ok x)
      → OnlyReads g old new answer
  only_reads_own answer fault given own call = only_reads_fine (other_fault answer fault Broken given own.0) (other_fault answer fault Device given own.1) call

  -- a call that didn't fail, and one after it
  pub only_reads_then : {old mid new : OpenFiles D} {x : A} {answer : Result B RunFault} → OnlyReads g old mid (Ok x)
      → OnlyReads g mid new answer → OnlyReads g old new answer
  only_reads_then first second = grind (arith, common_steps)

-- ---- calls that keep what is held

module _ {D : Type 0} {g : Ghosts D} {A : Type 0} where
  -- its edits are taken back
  pub reads_files_undone : {old mid new : OpenFiles D} {x : A} → StaysInMemory mid new → new.held.before ≡ mid.held.before → ReadsFiles g old mid (Ok x) → ReadsFiles g old new (Ok x)
  reads_files_undone {old = old} {mid = mid} {new = new} memory before call = record {
    keeps = keeps_same old.held mid.held new.held call.keeps before;
    reads = λ states tally honest. ap (λ (k : StoreView D). k.session) (view_same g.files states mid new tally memory before) ∙ call.reads states tally (subst g.honest memory.disk honest);
    disk = only_reads_undone memory before call.disk;
  }

  module _ {B : Type 0} {old new : OpenFiles D} where
    -- its fault, handed on
    pub reads_files_fault : {fault : RunFault} {answer : Result B RunFault} → answer ≡ Err fault → ReadsFiles {A = A} g old new (Err fault) → ReadsFiles g old new answer
    reads_files_fault {fault = fault} {answer = answer} is call = record {
      keeps = call.keeps;
      reads = λ states tally honest. reads_fault {A = A} (view_over g.files states old tally).session (view_over g.files states new tally).session (Err fault) answer fault refl is (call.reads states tally honest);
      disk = only_reads_fault is call.disk;
    }

    -- an answer that is Ok, or that there is no memory, after a call that didn't fail
    pub reads_files_ok : {x : A} {y : B} → ReadsFiles g old new (Ok x) → ReadsFiles g old new (Ok y)
    reads_files_ok call = record { keeps = call.keeps; reads = call.reads; disk = only_reads_ok call.disk }

    pub reads_files_memory : {x : A} {answer : Result B RunFault} → answer ≡ Err OutOfMemory → ReadsFiles g old new (Ok x) → ReadsFiles g old new answer
    reads_files_memory {answer = answer} is call = record {
      keeps = call.keeps;
      reads = λ states tally honest.
          subst (λ (r : Result B RunFault). Reads (view_over g.files states old tally).session r (view_over g.files states new tally).session) (sym is) (call.reads states tally honest);
      disk = only_reads_own answer OutOfMemory is (λ no. cc, λ no. cc) call.disk;
    }

  -- a call that didn't fail, and one after it
  pub reads_files_then : {B : Type 0} {old mid new : OpenFiles D} {x : A} {answer : Result B RunFault} → ReadsFiles g old mid (Ok x) → ReadsFiles g mid new answer → ReadsFiles g old new answer
  reads_files_then {old = old} {mid = mid} {new = new} {answer = answer} first second = record {
    keeps = keeps_then old.held mid.held new.held first.keeps second.keeps;
    reads = λ states tally honest.
        subst (λ (s : Session). Reads s answer (view_over g.files states new tally).session) (first.reads states tally (second.disk.accounts.was_honest honest)) (second.reads states tally honest);
    disk = only_reads_then first.disk second.disk;
  }
