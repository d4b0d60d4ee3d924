-- A change of a state, computed.
use Rattle.std.proofs.Common.{arith, ◌≡◌, ℕ, Bool, true, false, Option, Some, None, Result, Ok, Err, List, sym}
use Rattle.std.proofs.lemmas.Grind.{common_steps}
use Rattle.org_stamp.specs.Calendar.{Moment}
use Rattle.org_outline.specs.declared.steps.Step.{Step}
use Rattle.org_outline.specs.States.{Keywords}
use Rattle.org_outline.specs.Tree.{Document}
use Rattle.org_meta.specs.Planning.{PlanningLine}
use Rattle.org_meta.specs.Sections.{split}
use Rattle.org_meta.proofs.Computed.{entries_computed}
use Rattle.org_fault.specs.declared.refusal.Refusal.{Refusal}
use Rattle.org_state.specs.Todo.{Own, changed, repeating, TurnsDone, Turns, is_done, heading_to_change, IsTodoAt, IsTodo, turned_done, turned, todo_at, todo}

module _ (states : Keywords) (state : List ℕ) (now : Moment) where
  done_computed : (own : Own) (o : Option PlanningLine) (r : Result Own Refusal) → TurnsDone states state now own o r → turned_done states state now own o ≡ r
  done_computed own None r is = sym is
  done_computed own (Some p) r (text, are, is) = grind (arith, common_steps, changed, split, entries_computed)

  turn_computed : (was is : Bool) (own : Own) (r : Result Own Refusal) → Turns was is states state now own r → turned was is states state now own ≡ r
  turn_computed true false own r turns = sym turns
  turn_computed false true own r turns = done_computed own (repeating (split own.section).planning) r turns
  turn_computed true true own r turns = sym turns
  turn_computed false false own r turns = sym turns

  at_computed : (d : Document) (heading : Result (Option ℕ) Refusal) (r : Result (Option Document) Refusal) → IsTodoAt states state now d heading r → todo_at states state now d heading ≡ r
  at_computed d (Err fault) r is = sym is
  at_computed d (Ok None) r is = sym is
  at_computed d (Ok (Some i)) r (own, changes, is) = grind (arith, common_steps, turn_computed, is_done)

pub todo_computed : (states : Keywords) (path : List Step) (state : List ℕ) (now : Moment) (d : Document) (r : Result (Option Document) Refusal) → IsTodo states path state now d r
    → todo states path state now d ≡ r
todo_computed states path state now d r is = at_computed states state now d (heading_to_change states path state d) r is
