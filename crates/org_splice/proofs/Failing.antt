-- What a call promises of `Ok` alone, or of `Err` alone, where it failed.
use Rattle.std.proofs.Common.{Result, Ok, Err}
use Rattle.std.specs.Result.{IsErr, IfOk, OnOk, OnErr}

pub not_ok : {T E : Type 0} (r : Result T E) (P : Type 0) → IsErr r → OnOk r P
not_ok (Ok v) P h = absurd (cc)
not_ok (Err e) P h = tt

pub no_value : {T E : Type 0} (r : Result T E) (P : T → Type 0) → IsErr r → IfOk r P
no_value (Ok v) P h = absurd (cc)
no_value (Err e) P h = tt

-- what follows from both holds however the call ended
pub either_way : {T E : Type 0} (r : Result T E) (A B P : Type 0) → OnOk r A → OnErr r B → (A → P) → (B → P) → P
either_way (Ok v) A B P a b f g = f a
either_way (Err e) A B P a b f g = g b
