use Rattle.std.proofs.Common.{◌≡◌, ◌∙◌, Option, Some, Result, Ok, Err, refl, sym, subst}
use Rattle.std.specs.Prelude.{IfOk, IsOkAnd, MatchResult}
use Rattle.std.specs.Option.{ForSome}
use Rattle.org_disk.specs.declared.disk.Disk.{Ghosts}
use Rattle.org_outline.specs.States.{Keywords}
use Rattle.org_texts.specs.declared.plan.Plan.{Plan}
use Rattle.org_commands.specs.declared.command.Change.{Change}
use Rattle.org_commands.specs.declared.command.RunFault.{RunFault}
use Rattle.org_commands.specs.declared.command.RunFault.TheVariants.{Device, Broken}
use Rattle.org_commands.specs.Files.{OpenFiles}
use Rattle.org_commands.specs.Planning.{PlansFor, PlansOrStaysFor}
use Rattle.org_commands.specs.Reading.{OnlyReads}
use Rattle.org_commands.proofs.Faults.{fine_is_no_fault}
use Rattle.org_commands.proofs.MadeReady.{session_in}
use Rattle.org_commands.proofs.Reading.{only_reads_fault, only_reads_fine}
use Rattle.org_commands.proofs.Sessions.{some_planned}
use Rattle.org_commands.proofs.commands.plan.Goals as goal

-- a planner that always has a plan, as one of those that may have none: the plan fits ..
some_fits : (P : Plan → Type 0) (first : Result Plan RunFault) (answer : Result (Option Plan) RunFault) → MatchResult first (λ plan. IsOkAnd answer (λ given. given ≡ Some plan)) (λ fault. answer ≡ Err fault)
    → IfOk first P → IfOk answer (λ given. ForSome given P)
some_fits P (Ok plan) (Ok given) is fits = λ x has. let same : plan ≡ x = (let both : ◌≡◌ {A = Option Plan} (Some plan) (Some x) = sym is ∙ has in cc) in subst P same fits
some_fits P (Ok plan) (Err fault) is fits = absurd is
some_fits P (Err fault) answer is fits = subst (λ (r : Result (Option Plan) RunFault). IfOk r (λ given. ForSome given P)) (sym is) tt

-- .. it only reads ..
some_reads : {D : Type 0} {g : Ghosts D} {old new : OpenFiles D} (first : Result Plan RunFault) (answer : Result (Option Plan) RunFault)
    → MatchResult first (λ plan. IsOkAnd answer (λ given. given ≡ Some plan)) (λ fault. answer ≡ Err fault) → OnlyReads g old new first → OnlyReads g old new answer
some_reads (Ok plan) (Ok given) is call = only_reads_fine (fine_is_no_fault (Ok given) given Broken refl) (fine_is_no_fault (Ok given) given Device refl) call
some_reads (Ok plan) (Err fault) is call = absurd is
some_reads (Err fault) answer is call = only_reads_fault is call

-- .. and it makes the outcome
some_plans : {D : Type 0} (g : Ghosts D) (states : Keywords) {old new : OpenFiles D} (change given : Change) → change ≡ given → (first : Result Plan RunFault) (answer : Result (Option Plan) RunFault)
    → MatchResult first (λ plan. IsOkAnd answer (λ given. given ≡ Some plan)) (λ fault. answer ≡ Err fault) → PlansFor g states old given first new → PlansOrStaysFor g states old change answer new
some_plans g states {old} {new} change given same first answer is planned = subst (λ (c : Change). PlansOrStaysFor g states old c answer new) (sym same) (record {
  plan = some_fits _ first answer is planned.plan;
  plans = λ tally honest. some_planned (session_in g states old tally) _ first new.held (session_in g states new tally) answer is (planned.plans tally honest);
  disk = some_reads first answer is planned.disk;
})

pub returns-in-Capture : goal.returns-in-Capture
returns-in-Capture g c = some_plans g.D.Disk c.args.states.now _ _ c.in-Capture.is c.plan_capture.result c.map.result c.map.ensures.cases c.plan_capture.ensures

pub returns-in-Refile : goal.returns-in-Refile
returns-in-Refile g c = some_plans g.D.Disk c.args.states.now _ _ c.in-Refile.is c.plan_refile.result c.map-in-Refile.result c.map-in-Refile.ensures.cases c.plan_refile.ensures

pub returns-in-Archive : goal.returns-in-Archive
returns-in-Archive g c = some_plans g.D.Disk c.args.states.now _ _ c.in-Archive.is c.plan_archive.result c.map-in-Archive.result c.map-in-Archive.ensures.cases c.plan_archive.ensures

pub returns-in-Edit : goal.returns-in-Edit
returns-in-Edit g c = some_plans g.D.Disk c.args.states.now _ _ c.in-Edit.is c.plan_edit.result c.map-in-Edit.result c.map-in-Edit.ensures.cases (c.plan_edit.ensures c.args.states.now)
