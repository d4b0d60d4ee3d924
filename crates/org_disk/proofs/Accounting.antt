-- The accounts of calls, one after another.
use Rattle.std.proofs.Common.{◌≡◌, sym, true, false, true≢false, ℕ, List, arith}
use Rattle.std.proofs.lemmas.Grind.{common_steps}
use Rattle.std.specs.Prelude.{Result, Ok, Err, IsErr}
use Rattle.org_disk.specs.declared.disk.DiskFault.{DiskFault}
use Rattle.org_disk.specs.Disk.{FileState}
use Rattle.org_disk.specs.CountsFailures.{CountsFailures}
use Rattle.org_disk.specs.Calls.{AccountsOfCall, LooksInCall}
use Rattle.org_disk.specs.declared.disk.Disk.{Ghosts}

-- no call
pub accounts_none : {D : Type 0} (g : Ghosts D) (disk : D)
    → CountsFailures g disk disk ⊥
accounts_none g disk = grind (arith, common_steps)

-- one call
pub accounts_call : {D : Type 0} {A : Type 0} {g : Ghosts D} {old new : D} (result : Result A DiskFault)
    → AccountsOfCall g.truthful g.honest g.failures old new result → CountsFailures g old new (IsErr result)
accounts_call (Ok done) call = grind (arith, common_steps)
accounts_call (Err fault) call = grind (arith, common_steps)

-- a call that didn't fail
pub accounts_fine : {D : Type 0} {g : Ghosts D} {old new : D} {Failed : Type 0} → (Failed → ⊥)
    → CountsFailures g old new Failed → CountsFailures g old new ⊥
accounts_fine fine call = grind (arith, common_steps)

-- the same by the test of an answer that is Ok
pub accounts_ok : {D : Type 0} {g : Ghosts D} {old new : D}
    → CountsFailures g old new (false ≡ true) → CountsFailures g old new ⊥
accounts_ok call = accounts_fine (λ failed. true≢false (sym failed)) call

pub accounts_call_ok : {D : Type 0} {A : Type 0} {x : A} {g : Ghosts D} {old new : D}
    → AccountsOfCall g.truthful g.honest g.failures old new (Ok x) → CountsFailures g old new ⊥
accounts_call_ok {x = x} call = accounts_ok (accounts_call (Ok x) call)

-- calls that didn't fail, and others after them
pub accounts_then : {D : Type 0} {g : Ghosts D} {old mid new : D} {Failed : Type 0}
    → CountsFailures g old mid ⊥ → CountsFailures g mid new Failed → CountsFailures g old new Failed
accounts_then {g = g} {new = new} first second = grind (arith, common_steps)

pub looks_then : {D : Type 0} {files : D → List ℕ → FileState} {instant : D → ℕ} {left_since : D → ℕ → (List ℕ → List ℕ) → Type 0} {old mid new : D}
    → LooksInCall files instant left_since old mid → LooksInCall files instant left_since mid new → LooksInCall files instant left_since old new
looks_then first second = grind (arith, common_steps)

-- the same where each is known while the disk is honest after it
pub looks_behind : {D : Type 0} {files : D → List ℕ → FileState} {instant : D → ℕ} {left_since : D → ℕ → (List ℕ → List ℕ) → Type 0} {old mid new : D} {before after : Type 0}
    → (before → LooksInCall files instant left_since old mid) → (after → before) → (after → LooksInCall files instant left_since mid new) → after → LooksInCall files instant left_since old new
looks_behind first back second ended = looks_then (first (back ended)) (second ended)
