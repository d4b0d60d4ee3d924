-- Plans of commands that are refused for a file's name, or whose files can't be read.
use Rattle.std.proofs.Common.{◌≡◌, ◌∙◌, false, Option, Result, Err, refl, sym, ap, subst}
use Rattle.std.specs.Result.{IsErrAnd}
use Rattle.org_disk.specs.declared.disk.Disk.{Ghosts}
use Rattle.org_outline.specs.States.{Keywords}
use Rattle.org_texts.specs.declared.plan.Plan.{Plan}
use Rattle.org_fault.specs.declared.refusal.Refusal.TheVariants.{NoSuchFile}
use Rattle.org_commands.specs.declared.command.RunFault.{RunFault}
use Rattle.org_commands.specs.declared.command.RunFault.TheVariants.{Refused}
use Rattle.org_commands.specs.declared.tally.Tally.{Tally}
use Rattle.org_commands.specs.Files.{OpenFiles}
use Rattle.org_commands.specs.Keeping.{Plans}
use Rattle.org_commands.specs.Outcome.{Outcome, Refuses}
use Rattle.org_commands.specs.Planning.{PlansAs, PlansOrStaysAs}
use Rattle.org_commands.specs.Reading.{OnlyReads, ReadsFiles}
use Rattle.org_commands.specs.Session.{BetweenSessions, Session}
use Rattle.org_commands.specs.Step.{Steps}
use Rattle.org_commands.proofs.Faults.{no_value}
use Rattle.org_commands.proofs.Handing.{handed_on}
use Rattle.org_commands.proofs.MadeReady.{plans_fault, plans_unread, session_in, stays_fault, stays_unread}
use Rattle.org_commands.proofs.Reading.{only_reads_fault, only_reads_refused}

-- the refusal, of a session that works
refuses : (s : Session) (reported : Outcome) (fault : RunFault) → fault ≡ Refused NoSuchFile → s.broken ≡ false → reported ≡ Refuses NoSuchFile → Steps s reported (Err fault) s
refuses s reported fault is whole refused = subst (λ (f : RunFault). Steps s reported (Err f) s) (sym is) (whole, refused, refl)

-- a refusal of a plan, or a fault, that came as the fault of another call
pub plans_refused : {D : Type 0} (g : Ghosts D) (states : Keywords) (to_do : Session → Outcome) {old new : OpenFiles D} (answer : Result Plan RunFault) (fault : RunFault) → IsErrAnd answer (λ y. y ≡ fault)
    → BetweenSessions g states old new (λ s t. Plans s (to_do s) answer new.held t) → OnlyReads g old new answer → PlansAs g states old to_do answer new
plans_refused g states to_do answer fault handed plans disk = record { plan = no_value _ answer fault (handed_on answer fault handed); plans = plans; disk = disk }

module _ {D : Type 0} (g : Ghosts D) (states : Keywords) (to_do : Session → Outcome) {old : OpenFiles D} (unbroken : old.broken ≡ false) {fault : RunFault} where
  -- one of its files is none of the store's
  pub plans_no_file : (answer : Result Plan RunFault) → IsErrAnd answer (λ y. y ≡ fault) → fault ≡ Refused NoSuchFile → ((tally : Tally) → to_do (session_in g states old tally) ≡ Refuses NoSuchFile)
      → PlansAs g states old to_do answer old
  plans_no_file answer handed is reported =
      let given = handed_on answer fault handed in
      record {
        plan = no_value _ answer fault given;
        plans = λ tally honest.
            let s = session_in g states old tally in
            plans_fault s s (to_do s) old.held fault answer handed (refuses s (to_do s) fault is unbroken (reported tally));
        disk = only_reads_refused unbroken NoSuchFile answer (given ∙ ap Err is);
      }

  pub stays_no_file : (answer : Result (Option Plan) RunFault) → IsErrAnd answer (λ y. y ≡ fault) → fault ≡ Refused NoSuchFile → ((tally : Tally) → to_do (session_in g states old tally) ≡ Refuses NoSuchFile)
      → PlansOrStaysAs g states old to_do answer old
  stays_no_file answer handed is reported =
      let given = handed_on answer fault handed in
      record {
        plan = no_value _ answer fault given;
        plans = λ tally honest.
            let s = session_in g states old tally in
            stays_fault s s (to_do s) old.held fault answer handed (refuses s (to_do s) fault is unbroken (reported tally));
        disk = only_reads_refused unbroken NoSuchFile answer (given ∙ ap Err is);
      }

  -- they can't be read
  pub plans_no_read : {A : Type 0} (new : OpenFiles D) (answer : Result Plan RunFault) → IsErrAnd answer (λ y. y ≡ fault) → ReadsFiles {A = A} g old new (Err fault) → PlansAs g states old to_do answer new
  plans_no_read {A} new answer handed read =
      let given = handed_on answer fault handed in
      record {
        plan = no_value _ answer fault given;
        plans = λ tally honest. plans_unread g states old new tally (to_do (session_in g states old tally)) {A = A} {read = Err fault} answer handed unbroken refl (read.reads states tally honest);
        disk = only_reads_fault given read.disk;
      }

  pub stays_no_read : {A : Type 0} (new : OpenFiles D) (answer : Result (Option Plan) RunFault) → IsErrAnd answer (λ y. y ≡ fault) → ReadsFiles {A = A} g old new (Err fault) → PlansOrStaysAs g states old to_do answer new
  stays_no_read {A} new answer handed read =
      let given = handed_on answer fault handed in
      record {
        plan = no_value _ answer fault given;
        plans = λ tally honest. stays_unread g states old new tally (to_do (session_in g states old tally)) {A = A} {read = Err fault} answer handed unbroken refl (read.reads states tally honest);
        disk = only_reads_fault given read.disk;
      }
