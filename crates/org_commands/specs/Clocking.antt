-- Clocking in and out (Org manual, "Clocking commands").
use Rattle.std.specs.Prelude.{◌≡◌, ℕ, List, Option, None, Some, Result, Ok, Err}
use Rattle.std.specs.Result.{result_map_both}
use Rattle.org_fault.specs.declared.fault.Fault.{Fault}
use Rattle.org_fault.specs.declared.fault.Fault.TheVariants.{OutOfMemory, Refused}
use Rattle.org_fault.specs.declared.refusal.Refusal.{Refusal}
use Rattle.org_outline.specs.declared.paths.PathFault.{PathFault}
use Rattle.org_outline.specs.Paths.{refusal_of}
use Rattle.org_outline.specs.Tree.{Document}
use Rattle.org_stamp.specs.Calendar.{Moment}
use Rattle.org_texts.specs.declared.plan.Plan.{Plan}
use Rattle.org_move.specs.Refile.{Moved}
use Rattle.org_state.specs.declared.run.Running.{Running}
use Rattle.org_state.specs.Clock.{switched_at, with_closed, with_opened}
use Rattle.org_commands.specs.Refile.{MakesDocuments}

-- A clock opened at the heading that was found, and the one that runs in the document closed;
-- nothing changes where both are at one heading.
abbrev pub clocked_in : Moment → Option Running → Document → Result ℕ PathFault
    → Result (Option Document) Refusal
clocked_in now None d found = result_map_both (λ i. Some (with_opened now i d)) refusal_of found
clocked_in now (Some running) d found = switched_at now running.heading d found

-- the clock that runs in the document closed
abbrev pub clocked_out : Moment → Running → Document → Result (Option Document) Refusal
clocked_out now running d =
    result_map_both (λ new. Some new) (λ why. why) (with_closed now running.heading d)

-- the first document with its clock closed, the second with one opened at the heading that was
-- found
abbrev pub clock_moved : Moment → Running → Document → Document → Result ℕ PathFault
    → Result Moved Refusal
clock_moved now running other d (Ok i) =
    result_map_both (λ new. record { source = new; target = with_opened now i d }) (λ why. why)
    (with_closed now running.heading other)
clock_moved now running other d (Err fault) = Err (refusal_of fault)

-- The plan makes what is said of the texts of two files; or there is none, for this reason, or
-- since there is no memory for it.
abbrev pub PlansClocks : List ℕ → List ℕ → List ℕ → List ℕ → Result Moved Refusal
    → Result Plan (Fault Refusal) → Type 0
PlansClocks other file text target said (Ok plan) =
    (new : Moved) × (said ≡ Ok new) × MakesDocuments other file text target new plan
PlansClocks other file text target said (Err OutOfMemory) = Unit {0}
PlansClocks other file text target said (Err (Refused why)) = said ≡ Err why
