-- What an outline was read from.
use Rattle.std.specs.Prelude.{ℕ, List}
use Rattle.org_outline.specs.States.{Keywords}

pub record Source : Type 0 where
  pub text : List ℕ
  pub states : Keywords
