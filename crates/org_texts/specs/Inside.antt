-- What always holds of held texts.
use Rattle.std.specs.Prelude.{◌≡◌, ◌≤◌, true, ℕ, List, length}
use Rattle.std.specs.List.{AllByRecursion, list_any}
use Rattle.std.specs.Str.{bytes_eq}

-- each of the names is one of those
abbrev pub AreAmong : List (List ℕ) → List (List ℕ) → Type 0
AreAmong all names = AllByRecursion (λ name. list_any (bytes_eq name) all ≡ true) names

-- each dirty name is held, and those that were dirty before the command still do
pub record IsHolding (names dirty : List (List ℕ)) (dirty_before : ℕ) : Type 0 where
  pub held : AreAmong names dirty
  pub first : dirty_before ≤ length dirty
