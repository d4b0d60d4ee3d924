-- Changes of TODO states (Org manual, "TODO Items").
use Rattle.std.specs.Prelude.{◌≡◌, ℕ, List, Option, None, Some, Result, Ok, Err}
use Rattle.org_fault.specs.declared.fault.Fault.{Fault}
use Rattle.org_fault.specs.declared.fault.Fault.TheVariants.{OutOfMemory, Refused}
use Rattle.org_fault.specs.declared.refusal.Refusal.{Refusal}
use Rattle.org_outline.specs.Tree.{Document}
use Rattle.org_texts.specs.declared.plan.Plan.{Plan}
use Rattle.org_commands.specs.Refile.{MakesDocument}

-- The plan makes what is said of a file's text, and changes no other; or there is none, where
-- nothing changes, or for this reason, or since there is no memory for it.
abbrev pub PlansState : List ℕ → List ℕ → Result (Option Document) Refusal
    → Result (Option Plan) (Fault Refusal) → Type 0
PlansState file text said (Ok (Some plan)) =
    (new : Document) × (said ≡ Ok (Some new)) × MakesDocument file text new plan
PlansState file text said (Ok None) = said ≡ Ok None
PlansState file text said (Err OutOfMemory) = Unit {0}
PlansState file text said (Err (Refused why)) = said ≡ Err why
