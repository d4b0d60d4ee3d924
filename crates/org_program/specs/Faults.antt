-- Why a run of the program doesn't come to serve any line.
use Rattle.std.specs.Prelude.{◌⊎◌, ℕ, List}
use Rattle.org_program.specs.declared.arguments.Arguments.{Arguments}
use Rattle.org_program.specs.declared.fault.Fault.{Fault}
use Rattle.org_program.specs.Causes.{IsCause}
use Rattle.org_program.specs.Words.{AreTaken, IsFaultBy, Say}

-- of words that are taken: why their names and states aren't a store's, or its folder can't be had
-- beside them
pub record IsFaultOfStart (words : List (List ℕ)) (fault : Fault) : Type 0 where
  pub arguments : Arguments
  pub said : Say words arguments
  pub cause : IsCause arguments fault

-- why words aren't taken, or a store isn't set up by them
abbrev pub IsFaultOfRun : List (List ℕ) → Fault → Type 0
IsFaultOfRun words fault = IsFaultBy (AreTaken words → ⊥) fault ⊎ IsFaultOfStart words fault
