-- What the exit of a `?` returns.
use Rattle.std.proofs.Common.{arith, ◌≡◌, Result, Err}
use Rattle.std.proofs.lemmas.Grind.{common_steps}
use Rattle.std.specs.Result.{IsErrAnd}

pub handed_on : {T E : Type 0} (r : Result T E) (fault : E) → IsErrAnd r (λ y. y ≡ fault) → r ≡ Err fault
handed_on r fault handed = grind (arith, common_steps)
