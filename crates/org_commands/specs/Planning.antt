-- What planning a command does, said once for all planners: the plan, and what is read for it.
use Rattle.std.specs.Prelude.{Option, Result, IfOk}
use Rattle.std.specs.Option.{ForSome}
use Rattle.org_disk.specs.declared.disk.Disk.{Ghosts}
use Rattle.org_outline.specs.States.{Keywords}
use Rattle.org_texts.specs.declared.plan.Plan.{Plan}
use Rattle.org_commands.specs.declared.command.Change.{Change}
use Rattle.org_commands.specs.declared.command.RunFault.{RunFault}
use Rattle.org_commands.specs.Files.{IsPlanFor, OpenFiles}
use Rattle.org_commands.specs.Keeping.{Plans, PlansOrStays}
use Rattle.org_commands.specs.Outcome.{Outcome, outcome_of_change}
use Rattle.org_commands.specs.Reading.{OnlyReads}
use Rattle.org_commands.specs.Session.{BetweenSessions, Session}

-- A call that is to have this outcome was planned over files that work, or it can't be done. The
-- files were `old`, this was answered, and the files are `new`.
pub record PlansAs {D : Type 0} (g : Ghosts D) (states : Keywords) (old : OpenFiles D)
    (to_do : Session → Outcome) (answer : Result Plan RunFault) (new : OpenFiles D) : Type 0 where
  -- the plan is for files that are ready
  pub plan : IfOk answer (λ plan. IsPlanFor new.names new.held plan)
  -- it makes the outcome of their texts
  pub plans : BetweenSessions g states old new
      (λ before after. Plans before (to_do before) answer new.held after)
  pub disk : OnlyReads g old new answer

-- The same of a call that may change nothing: then there is no plan.
pub record PlansOrStaysAs {D : Type 0} (g : Ghosts D) (states : Keywords) (old : OpenFiles D)
    (to_do : Session → Outcome) (answer : Result (Option Plan) RunFault) (new : OpenFiles D)
    : Type 0 where
  pub plan : IfOk answer (λ plan. ForSome plan (λ plan. IsPlanFor new.names new.held plan))
  pub plans : BetweenSessions g states old new
      (λ before after. PlansOrStays before (to_do before) answer new.held after)
  pub disk : OnlyReads g old new answer

-- A change was planned over files that work, or it can't be done: the plan makes its outcome.
abbrev pub PlansFor : {D : Type 0} → Ghosts D → Keywords → OpenFiles D → Change
    → Result Plan RunFault → OpenFiles D → Type 0
PlansFor g states old change answer new =
    PlansAs g states old (λ s. outcome_of_change s change) answer new

-- The same of a change that may change nothing: then there is no plan.
abbrev pub PlansOrStaysFor : {D : Type 0} → Ghosts D → Keywords → OpenFiles D → Change
    → Result (Option Plan) RunFault → OpenFiles D → Type 0
PlansOrStaysFor g states old change answer new =
    PlansOrStaysAs g states old (λ s. outcome_of_change s change) answer new
