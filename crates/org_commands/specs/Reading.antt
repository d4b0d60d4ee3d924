-- What every call says of its disk that reads files where they aren't held, said once.
use Rattle.std.specs.Prelude.{◌≡◌, ◌↔◌, Result, IsErrOf, IsTrue}
use Rattle.org_disk.specs.declared.disk.Disk.{Ghosts}
use Rattle.org_disk.specs.CountsFailures.{CountsFailures, Looks}
use Rattle.org_outline.specs.States.{Keywords}
use Rattle.org_commands.specs.declared.command.RunFault.{RunFault}
use Rattle.org_commands.specs.declared.command.RunFault.TheVariants.{Device, Broken}
use Rattle.org_commands.specs.Files.{KeepsHeld, OpenFiles}
use Rattle.org_commands.specs.Keeping.{Reads}
use Rattle.org_commands.specs.Session.{BetweenSessions}

-- A call over files that work reads those that it needs, where they aren't held, and does nothing
-- else to the disk. The files were `old`, this was answered, and the files are `new`.
pub record OnlyReads {D A : Type 0} (g : Ghosts D) (old new : OpenFiles D)
    (answer : Result A RunFault) : Type 0 where
  -- the disk is only looked at
  pub looks : Looks g old.disk new.disk
  pub names : new.names ≡ old.names
  -- of the texts as they were before the command, the same are dirty
  pub dirty_files : new.held.before.dirty ≡ old.held.before.dirty
  -- the answer isn't that the files were broken before ..
  pub works : IsErrOf answer Broken → ⊥
  -- .. and it is the device's fault exactly where they are broken afterwards
  pub breaks : IsErrOf answer Device ↔ IsTrue new.broken
  pub accounts : CountsFailures g old.disk new.disk (IsErrOf answer Device)

-- .. and no text changes by it: what was held is held as it was, and a store over the files is as
-- it was, unless the disk failed.
pub record ReadsFiles {D A : Type 0} (g : Ghosts D) (old new : OpenFiles D)
    (answer : Result A RunFault) : Type 0 where
  pub keeps : KeepsHeld old.held new.held
  pub reads : (states : Keywords)
      → BetweenSessions g states old new (λ before after. Reads before answer after)
  pub disk : OnlyReads g old new answer
