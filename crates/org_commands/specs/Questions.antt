-- What answering a question does.
use Rattle.std.specs.Prelude.{◌≡◌, Result, Ok, Err}
use Rattle.org_disk.specs.declared.disk.Disk.{Ghosts}
use Rattle.org_outline.specs.States.{Keywords}
use Rattle.org_commands.specs.declared.command.Command.TheVariants.{Ask}
use Rattle.org_commands.specs.declared.command.Question.{Question}
use Rattle.org_commands.specs.declared.command.Reply.{Reply}
use Rattle.org_commands.specs.declared.command.Reply.TheVariants.{Done, Safe, Text, Time}
use Rattle.org_commands.specs.declared.command.RunFault.{RunFault}
use Rattle.org_commands.specs.Files.{OpenFiles}
use Rattle.org_commands.specs.Reading.{OnlyReads}
use Rattle.org_commands.specs.Session.{BetweenSessions}
use Rattle.org_commands.specs.Step.{Step}

-- an answer that counts and settles nothing
abbrev pub IsUncounted : Result Reply RunFault → Type 0
IsUncounted (Ok (Done n)) = ⊥
IsUncounted (Ok (Safe n)) = ⊥
IsUncounted (Ok (Text text)) = Unit {0}
IsUncounted (Ok (Time minutes)) = Unit {0}
IsUncounted (Err fault) = Unit {0}

-- A question got this answer over files that work: they were `old`, and are `new`.
pub record AnswersQuestion {D : Type 0} (g : Ghosts D) (states : Keywords) (old : OpenFiles D)
    (question : Question) (answer : Result Reply RunFault) (new : OpenFiles D) : Type 0 where
  pub uncounted : IsUncounted answer
  -- it is what is asked for, and no text changes
  pub steps : BetweenSessions g states old new
      (λ before after. Step before (Ask question) answer after)
  pub unedited : new.held.now ≡ new.held.before
  pub disk : OnlyReads g old new answer
