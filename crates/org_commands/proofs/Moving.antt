-- A clock stopped in one file and started in another: the planner finds what the outcome says.
use Rattle.std.proofs.Common.{◌≡◌, ◌≢◌, ◌∷◌, [], ℕ, List, Option, Some, Result, Ok, Err, sym, ◌∙◌, ap, subst}
use Rattle.std.specs.Option.{ForSome, unwrap_or}
use Rattle.std.specs.Result.{IsErrAnd}
use Rattle.org_fault.specs.declared.fault.Fault.{Fault}
use Rattle.org_fault.specs.declared.refusal.Refusal.{Refusal}
use Rattle.org_disk.specs.declared.disk.Disk.{Ghosts}
use Rattle.org_splice.specs.Texts.{EditedText}
use Rattle.org_outline.specs.States.{Keywords}
use Rattle.org_outline.specs.Tree.{Document, tree}
use Rattle.org_stamp.specs.Calendar.{Moment}
use Rattle.org_texts.specs.declared.plan.Plan.{Plan}
use Rattle.org_move.specs.Refile.{Moved}
use Rattle.org_state.specs.declared.run.Running.{Running}
use Rattle.org_commands.specs.declared.command.RunFault.{RunFault}
use Rattle.org_commands.specs.declared.tally.Tally.{Tally}
use Rattle.org_commands.specs.Clocking.{PlansClocks, clock_moved}
use Rattle.org_commands.specs.Files.{IsPlanFor, OpenFiles}
use Rattle.org_commands.specs.InOrder.{text_at}
use Rattle.org_commands.specs.Keeping.{PlansOrStays, fault_of}
use Rattle.org_commands.specs.Outcome.{Outcome, changed, with_clock_moved}
use Rattle.org_commands.specs.Session.{Session}
use Rattle.org_commands.proofs.Clocks.{move_not_made}
use Rattle.org_commands.proofs.MadeReady.{Sees, document_seen, documents_fit, documents_texts, session_in, stays_not_fit}

module _ {D : Type 0} {g : Ghosts D} {states : Keywords} {old new : OpenFiles D} {file to_file : List ℕ} {seen found : EditedText}
    (both : Sees g states old new (to_file ∷ file ∷ []) file seen × Sees g states old new (to_file ∷ file ∷ []) to_file found) (i : ℕ) (moment : Moment) (running : Running) where
  -- what is made of two documents
  abbrev said : Document → Document → Result Moved Refusal
  said other d = clock_moved moment running other d (Ok i)

  abbrev made : Result Moved Refusal
  made = said (tree seen.bytes) (tree found.bytes)

  pub move_fits : (plan : Plan) → file ≢ to_file → PlansClocks file to_file seen.bytes found.bytes made (Ok plan) → ForSome (Some plan) (λ plan. IsPlanFor new.names new.held plan)
  move_fits plan apart (d, is, makes) = λ given own.
      let same : plan ≡ given = cc in
      subst (λ (p : Plan). IsPlanFor new.names new.held p) same (documents_fit both apart plan d makes)

  module _ (tally : Tally) (honest : g.honest new.disk) where
    abbrev s : Session
    s = session_in g states old tally

    abbrev reported : Outcome
    reported = with_clock_moved s file to_file (said (tree (unwrap_or (text_at s.names s.files file) [])) (tree (unwrap_or (text_at s.names s.files to_file) [])))

    -- the planner sees the store's documents
    reported_is : reported ≡ with_clock_moved s file to_file made
    reported_is =
        ap (λ (d : Document). with_clock_moved s file to_file (said d (tree (unwrap_or (text_at s.names s.files to_file) [])))) (document_seen both.0 tally honest)
        ∙ ap (λ (d : Document). with_clock_moved s file to_file (said (tree seen.bytes) d)) (document_seen both.1 tally honest)

    pub move_fails : (result : Result Plan (Fault Refusal)) {why : Fault Refusal} (answer : Result (Option Plan) RunFault) → result ≡ Err why → PlansClocks file to_file seen.bytes found.bytes made result → IsErrAnd answer (λ y. y ≡ fault_of why)
        → PlansOrStays s reported answer new.held (session_in g states new tally)
    move_fails result {why} answer was plans handed =
        stays_not_fit s (session_in g states new tally) reported new.held (fault_of why) answer handed (both.0.reads tally honest) (move_not_made s file to_file seen.bytes found.bytes reported made result why both.0.unbroken reported_is was plans)

    pub move_planned : (plan : Plan) → file ≢ to_file → PlansClocks file to_file seen.bytes found.bytes made (Ok plan) → PlansOrStays s reported (Ok (Some plan)) new.held (session_in g states new tally)
    move_planned plan apart (d, is, makes) = (reported_is ∙ ap (with_clock_moved s file to_file) is ∙ ap (changed s) (sym (documents_texts both apart plan d makes)), both.0.reads tally honest)
