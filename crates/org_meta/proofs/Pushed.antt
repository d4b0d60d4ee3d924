-- Bytes that are appended.
use Rattle.std.proofs.Common.{◌≡◌, ℕ, List, subst, rules}
use Rattle.std.specs.Prelude.{OnOk, Result, Ok, Err, is_ok, if◌then◌else◌}
use Rattle.std.specs.declared.alloc.AllocError.{AllocError}

-- by another spelling of them
pub put_same : (r : Result (Unit {0}) AllocError) (new some same : List ℕ) → some ≡ same → OnOk r (new ≡ some) → OnOk r (new ≡ same)
put_same r new some same is put = subst (λ (t : List ℕ). OnOk r (new ≡ t)) is put

pub put_whole : (r : Result (Unit {0}) AllocError) (new some none : List ℕ) → new ≡ (if is_ok r then some else none) → OnOk r (new ≡ some)
put_whole (Ok _) new some none is = is
put_whole (Err _) new some none is = search rules
