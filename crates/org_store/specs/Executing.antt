-- What running a command does, and what a commit of the texts that are held.
use Rattle.std.specs.Prelude.{◌≡◌, ◌⊎◌, Result, IfErr, IsErrOf, MatchResult}
use Rattle.org_disk.specs.declared.disk.Disk.{Ghosts}
use Rattle.org_disk.specs.CountsFailures.{CountsFailures}
use Rattle.org_journal.specs.Recovered.{contents}
use Rattle.org_commands.specs.declared.command.Reply.{Reply}
use Rattle.org_commands.specs.declared.command.RunFault.{RunFault}
use Rattle.org_commands.specs.declared.command.RunFault.TheVariants.{Device, OutOfMemory}
use Rattle.org_commands.specs.Files.{OpenFiles}
use Rattle.org_commands.specs.Outcome.{Outcome}
use Rattle.org_commands.specs.Session.{StoreView}
use Rattle.org_commands.specs.Step.{Steps}
use Rattle.org_store.specs.Counts.{Counts, SettledCounts}
use Rattle.org_store.specs.Dirty.{DirtyAfter}
use Rattle.org_store.specs.Left.{IsLeft, IsLeftAlone}
use Rattle.org_store.specs.Runs.{LeavesDisk, SaysBroken, SettlesAll, StaysWhereNeedless}

-- A call that is to have this outcome, and settles only what it counts, got this answer: the store
-- was `old`, and is `new`.
pub record Executes {D : Type 0} (g : Ghosts D) (old : StoreView D) (outcome : Outcome)
    (answer : Result Reply RunFault) (new : StoreView D) : Type 0 where
  -- where the disk is honest after it
  pub step : g.honest new.disk → Steps old.session outcome answer new.session
  pub disk : g.honest new.disk → LeavesDisk g old new
      (IsLeft old.session (contents (g.files old.disk)) outcome answer new.session.accepted)
      (IsLeftAlone old.session old.dirty outcome answer new.session.accepted)
      (IsErrOf answer Device)
  pub dirty_files : g.honest new.disk → DirtyAfter old outcome answer new
  -- whatever the disk does
  pub counts : Counts old.session answer new.session
  pub broken : SaysBroken old.session answer new.session
  pub accounts : CountsFailures g old.disk new.disk (IsErrOf answer Device)

-- The same of a call that settles all, as `Store::settle` says it.
pub record SettlesPending {D : Type 0} (g : Ghosts D) (old : StoreView D)
    (answer : Result (Unit {0}) RunFault) (new : StoreView D) : Type 0 where
  pub did : SettlesAll g old answer new
  pub counts : SettledCounts old.session answer new.session
  pub idle : StaysWhereNeedless (Unit {0}) old answer new
  pub broken : SaysBroken old.session answer new.session
  pub accounts : CountsFailures g old.disk new.disk (IsErrOf answer Device)

-- the files with the edits of the command that runs kept
abbrev pub kept : {D : Type 0} → OpenFiles D → OpenFiles D
kept files = record files { held = record files.held { before = files.held.now } }

-- What a commit makes of what is held, and why it isn't done.
pub record KeepsHeld {D : Type 0} (old : OpenFiles D) (answer : Result (Unit {0}) RunFault)
    (new : OpenFiles D) : Type 0 where
  -- once it is done, nothing is edited that isn't kept; else all is held as it was
  pub held : MatchResult answer (λ _. new.held.now ≡ new.held.before) (λ _. new.held ≡ old.held)
  pub memory : IsErrOf answer OutOfMemory → new ≡ old
  pub faults : IfErr answer (λ fault. (fault ≡ OutOfMemory) ⊎ (fault ≡ Device))
