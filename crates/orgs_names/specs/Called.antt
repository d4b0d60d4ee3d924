-- What a user calls a heading.
use Rattle.std.specs.Prelude.{ℕ, List, map}
use Rattle.org_outline.specs.declared.steps.Step.{Step}
use Rattle.orgs_folding.specs.Folding.{folded}

-- a text, and the steps of the path that it is; none where it is no path
pub record Called : Type 0 where
  pub text : List ℕ
  pub path : List Step

-- the titles of steps, folded
abbrev pub folded_titles : List Step → List (List ℕ)
folded_titles path = map (λ step. folded step.title) path
