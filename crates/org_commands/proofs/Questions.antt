-- Questions: a fault is handed on, and the files are as they were but for what is held.
use Rattle.std.proofs.Common.{◌≡◌, ◌∙◌, Result, Err, refl, sym, ap, subst}
use Rattle.std.specs.Result.{IsErrAnd}
use Rattle.org_disk.specs.declared.disk.Disk.{Ghosts}
use Rattle.org_outline.specs.States.{Keywords}
use Rattle.org_commands.specs.declared.command.Command.TheVariants.{Ask}
use Rattle.org_commands.specs.declared.command.Question.{Question}
use Rattle.org_fault.specs.declared.refusal.Refusal.TheVariants.{NoSuchFile}
use Rattle.org_commands.specs.declared.command.Reply.{Reply}
use Rattle.org_commands.specs.declared.command.RunFault.{RunFault}
use Rattle.org_commands.specs.declared.command.RunFault.TheVariants.{Refused}
use Rattle.org_commands.specs.declared.tally.Tally.{Tally}
use Rattle.org_commands.specs.Files.{AreReadyForCommand, OpenFiles}
use Rattle.org_commands.specs.Outcome.{Refuses, outcome_of_question}
use Rattle.org_commands.specs.Questions.{AnswersQuestion}
use Rattle.org_commands.specs.Reading.{OnlyReads}
use Rattle.org_commands.specs.Session.{BetweenSessions, view_over}
use Rattle.org_commands.specs.Step.{Step}
use Rattle.org_commands.proofs.Handing.{handed_on}
use Rattle.org_commands.proofs.Reading.{only_reads_fault, only_reads_refused}

module _ {D : Type 0} (g : Ghosts D) (states : Keywords) (old : OpenFiles D) (question : Question) where
  -- it handed a fault on
  pub question_failed : {A : Type 0} (new : OpenFiles D) (fault : RunFault) (answer : Result Reply RunFault) → answer ≡ Err fault → BetweenSessions g states old new (λ before after. Step before (Ask question) (Err fault) after)
      → new.held.now ≡ new.held.before → OnlyReads {A = A} g old new (Err fault) → AnswersQuestion g states old question answer new
  question_failed new fault answer given steps unedited reads = subst (λ (a : Result Reply RunFault). AnswersQuestion g states old question a new) (sym given)
      (record { uncounted = tt; steps = steps; unedited = unedited; disk = only_reads_fault refl reads })

  -- its file is none of the store's
  pub question_refused : AreReadyForCommand old → {fault : RunFault} (answer : Result Reply RunFault) → IsErrAnd answer (λ y. y ≡ fault) → fault ≡ Refused NoSuchFile
      → ((tally : Tally) → outcome_of_question (view_over g.files states old tally).session question ≡ Refuses NoSuchFile) → AnswersQuestion g states old question answer old
  question_refused between {fault} answer handed is refuses =
      question_failed {A = Reply} old (Refused NoSuchFile) answer (handed_on answer fault handed ∙ ap (λ (f : RunFault). Err f) is) (λ tally honest. (between.unbroken, refuses tally, refl)) between.unedited
      (only_reads_refused between.unbroken NoSuchFile (Err (Refused NoSuchFile)) refl)
