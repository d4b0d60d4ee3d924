-- What a call of a set makes of it besides its disk.
use Rattle.std.proofs.Common.{arith, ◌≡◌, true, false}
use Rattle.std.proofs.lemmas.Grind.{common_steps}
use Rattle.std.specs.Prelude.{Result, Ok, Err, OnOk, IsErrOf, IsErrAnd}
use Rattle.org_fileset.specs.Set.{KeepsSet, Opened}
use Rattle.org_fileset.specs.declared.fault.SetFault.{SetFault}
use Rattle.org_fileset.specs.declared.fault.SetFault.TheVariants.{Broken, Device, OutOfMemory}

module _ {D A : Type 0} (old new : Opened D) (same : new.names ≡ old.names) (whole : old.broken ≡ false) where
  -- no call of the disk failed
  pub keeps_whole : new.broken ≡ false → (result : Result A SetFault) → (IsErrOf result Broken → ⊥) → (IsErrOf result Device → ⊥) → KeepsSet old new result
  keeps_whole still result answered fine = grind (arith, common_steps)

  -- a call of the disk failed
  pub keeps_broken : new.broken ≡ true → KeepsSet {A = A} old new (Err Device)
  keeps_broken is = grind (arith, common_steps)

-- a broken one does nothing
pub keeps_refused : {D A : Type 0} (old : Opened D) → old.broken ≡ true → KeepsSet {A = A} old old (Err Broken)
keeps_refused old before = grind (arith, common_steps)

-- answers that differ
pub ok_apart : {A E : Type 0} {x : A} {e : E} → ◌≡◌ {A = Result A E} (Ok x) (Err e) → ⊥
ok_apart is = cc is

pub device_apart : {A : Type 0} → ◌≡◌ {A = Result A SetFault} (Err Device) (Err OutOfMemory) → ⊥
device_apart is = cc is

pub broken_apart : {A : Type 0} → ◌≡◌ {A = Result A SetFault} (Err Broken) (Err Device) → ⊥
broken_apart is = cc is

pub memory_apart : OutOfMemory ≡ Device → ⊥
memory_apart is = cc is

-- what a `?` passed on is no Ok
pub passed_never : {A E : Type 0} (P : E → Type 0) (Q : Type 0) (answer : Result A E) → IsErrAnd answer P → OnOk answer Q
passed_never P Q (Ok x) is = absurd is
passed_never P Q (Err e) is = tt
