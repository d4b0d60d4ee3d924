-- Calls of a store over a disk: what each of them promises of it, and what a crash leaves
-- meanwhile.
use Rattle.std.specs.Prelude.{◌≡◌, ◌⊎◌, ◌↔◌, ℕ, List, [], Result, IsErrOf, IsTrue}
use Rattle.org_disk.specs.declared.disk.Disk.{Ghosts}
use Rattle.org_disk.specs.CountsFailures.{LeavesOver}
use Rattle.org_disk.specs.Disk.{LeavesOnly}
use Rattle.org_journal.specs.Recovered.{Image, SameFiles, IsRecoverable, contents}
use Rattle.org_fileset.specs.Left as of_set
use Rattle.org_fileset.specs.Replay.{IsAtRest}
use Rattle.org_fileset.specs.Writes.{LeavesAlone}
use Rattle.org_commands.specs.declared.command.Command.{Command}
use Rattle.org_commands.specs.declared.command.Command.TheVariants.{Settle}
use Rattle.org_commands.specs.declared.command.Reply.{Reply}
use Rattle.org_commands.specs.declared.command.RunFault.{RunFault}
use Rattle.org_commands.specs.declared.command.RunFault.TheVariants.{Device, Broken}
use Rattle.org_commands.specs.InOrder.{with_texts}
use Rattle.org_commands.specs.Session.{Session, StoreView}
use Rattle.org_commands.specs.Outcome.{AsksToSettle, outcome}
use Rattle.org_commands.specs.Step.{Step, Settles}
use Rattle.org_store.specs.Left.{IsLeft, IsLeftAlone}
use Rattle.org_store.specs.Dirty.{DirtyAfter, DirtyAfterSettled}

-- What a call of a store leaves of its disk, where the disk is honest after it. `Left` is what a
-- crash may leave while the call runs, `Alone` are the files that it leaves alone, and `Failed`
-- says that the call answers Device.
pub record LeavesDisk {D : Type 0} (g : Ghosts D) (old new : StoreView D) (Left : Image → Type 0)
    (Alone : List ℕ → Type 0) (Failed : Type 0) : Type 0 where
  -- where all was on the disk: what a crash at any moment since the call began leaves
  pub any_moment : IsAtRest (g.files old.disk)
      → LeavesOnly (g.instant old.disk) (g.instant new.disk) (g.left_since old.disk)
      (g.left_since new.disk) Left
  -- .. in which no file is found to be changed by its bytes
  pub left : IsAtRest (g.files old.disk) → LeavesOver g old.disk new.disk of_set.IsLeft
  -- where the disk didn't fail: the store's files have the texts that are settled, and all others
  -- are as they were
  pub others : (Failed → ⊥)
      → SameFiles (contents (g.files new.disk))
      (with_texts new.session.names new.session.settled (contents (g.files old.disk)))
  -- .. and all is on the disk again
  pub rest : (Failed → ⊥) → IsAtRest (g.files old.disk) → IsAtRest (g.files new.disk)
  -- after a failure too, it may be opened again
  pub recoverable : IsAtRest (g.files old.disk) → IsRecoverable (g.files new.disk)
  pub alone : LeavesAlone g Alone old.disk new.disk

-- A call that has nothing to do leaves the store as it is, whatever its disk does: a broken store
-- stays so, and so does one with nothing pending that is asked to settle, and no more (`Asks`).
pub record StaysWhereNeedless {D A : Type 0} (Asks : Type 0) (old : StoreView D)
    (answer : Result A RunFault) (new : StoreView D) : Type 0 where
  -- the store was broken before
  pub untouched : IsErrOf answer Broken → new ≡ old
  -- no accepted command is pending
  pub nothing : Asks → old.session.acknowledged ≡ old.session.accepted → new ≡ old
  -- .. and where no file is dirty, there is no call of the disk
  pub unneeded : Asks → old.dirty ≡ [] → new.disk ≡ old.disk

-- When a store is broken, whatever its disk does: Broken is answered exactly where it was so
-- before, and after the call it is so where it was or where Device is answered.
pub record SaysBroken {A : Type 0} (old : Session) (answer : Result A RunFault) (new : Session)
    : Type 0 where
  pub before : IsErrOf answer Broken ↔ IsTrue old.broken
  pub behind : IsTrue new.broken ↔ (IsTrue old.broken ⊎ IsErrOf answer Device)

-- A command was run over a disk of the type D that is honest after it: the store was `old`, this
-- was answered, and the store is `new`.
pub record RunsOver {D : Type 0} (g : Ghosts D) (old : StoreView D) (command : Command)
    (answer : Result Reply RunFault) (new : StoreView D) : Type 0 where
  pub step : Step old.session command answer new.session
  pub disk : LeavesDisk g old new
      (IsLeft old.session (contents (g.files old.disk))
      (outcome old.session command) answer new.session.accepted)
      (IsLeftAlone old.session old.dirty
      (outcome old.session command) answer new.session.accepted)
      (IsErrOf answer Device)
  pub dirty_files : DirtyAfter old (outcome old.session command) answer new
  pub idle : StaysWhereNeedless (command ≡ Settle) old answer new

-- The same of settling.
pub record SettlesOver {D : Type 0} (g : Ghosts D) (old : StoreView D)
    (answer : Result (Unit {0}) RunFault) (new : StoreView D) : Type 0 where
  pub step : Settles old.session answer new.session
  pub disk : LeavesDisk g old new
      (IsLeft old.session (contents (g.files old.disk)) AsksToSettle answer new.session.accepted)
      (IsLeftAlone old.session old.dirty AsksToSettle answer new.session.accepted)
      (IsErrOf answer Device)
  pub dirty_files : DirtyAfterSettled old.dirty answer new.dirty
  pub idle : StaysWhereNeedless (Unit {0}) old answer new

-- What `Store::run` and `Store::settle` promise: this of a disk that is honest after the call.
abbrev pub Runs : {D : Type 0} → Ghosts D → StoreView D → Command → Result Reply RunFault
    → StoreView D → Type 0
Runs g old command answer new = g.honest new.disk → RunsOver g old command answer new

abbrev pub SettlesAll : {D : Type 0} → Ghosts D → StoreView D → Result (Unit {0}) RunFault
    → StoreView D → Type 0
SettlesAll g old answer new = g.honest new.disk → SettlesOver g old answer new

-- The texts that are settled are those of the disk's files.
abbrev pub IsOnDisk : Session → Image → Type 0
IsOnDisk s files = SameFiles files (with_texts s.names s.settled files)
