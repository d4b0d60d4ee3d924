-- What a run over synced files promises, in one place: README's six sentences, by their names.
--
-- A run is given a disk, opens a store over it, answers lines, and gives the disk back. Its states
-- are the store as it was opened, the store after each line that was run, and the store at the
-- end. A state, a `Trace`, has a disk, the session of the store, and a list: at place n stand the
-- texts of all files after the first n accepted commands. What is said of a state is said where the
-- disk is honest there: each of its answers was right up to then.
--
-- `LeavesOver g old new P` says that a crash at any moment between two disks leaves what has P: an
-- image of all files. An image recovers to the files that the next opening finds.
use Rattle.std.specs.Prelude.{◌≡◌, ◌⊎◌, ℕ, ◌≤◌, List, Result, Ok, Err, slice_get, IsSomeAnd, IsFalse}
use Rattle.org_disk.specs.declared.disk.Disk.{Ghosts}
use Rattle.org_disk.specs.CountsFailures.{CountsFailures, LeavesOver}
use Rattle.org_journal.specs.Recovered.{Image, RecoversTo, contents}
use Rattle.org_fileset.specs.declared.open.OpenFault.{OpenFault}
use Rattle.org_fileset.specs.Opening.{IsRefusedFor}
use Rattle.org_fileset.specs.Recovery.{IsReopened}
use Rattle.org_fileset.specs.Writes.{LeavesAlone}
use Rattle.org_commands.specs.declared.command.Command.{Command}
use Rattle.org_fault.specs.declared.refusal.Refusal.{Refusal}
use Rattle.org_commands.specs.declared.command.RunFault.TheVariants.{Refused}
use Rattle.org_commands.specs.declared.tally.Group.TheVariants.{Whole}
use Rattle.org_commands.specs.Outcome.{Refuses, outcome}
use Rattle.org_commands.specs.InOrder.{with_texts}
use Rattle.org_store.specs.Calls.{model}
use Rattle.org_store.specs.Calls.Call.{Ran}
use Rattle.org_store.specs.History.{Trace}
use Rattle.org_serve.specs.declared.end.ServeEnd.{ServeEnd}
use Rattle.org_serve.specs.declared.whole.Setup.{Setup}
use Rattle.org_serve.specs.History.{Reaches}
use Rattle.org_serve.specs.Pipes.{Exchange}
use Rattle.org_serve.specs.Serving.{Answers, Serves, traces_while_honest}
use Rattle.org_serve.specs.Syncing.{IsRecoverableOnceSynced, IsAsFound}
use Rattle.org_serve.specs.Whole.{Begins, BreaksByCount, HoldsWhole, IsForeignTo, IsIntermediate, IsIntermediateTo, LeavesForeign, ListsFiles, SaysFailure, ServesOver}

module _ {D : Type 0} {g : Ghosts D} {setup : Setup} {disk now : D} {end : ServeEnd} {io : Exchange}
    (run : ServesOver g setup disk now end io) where
  -- all files where the store's own have these texts: the others are as they were once it had
  -- opened
  abbrev pub files_after : List (List ℕ) → Image
  files_after texts =
      with_texts run.first.store.session.names texts (contents (g.files run.first.store.disk))

  -- The image recovers to all files as they were after the first n of the commands that are
  -- accepted at the state; n is at least this.
  abbrev pub IsAfterPrefix : Trace D → (least : ℕ) → Image → Type 0
  IsAfterPrefix state least image =
      (n : ℕ) × (least ≤ n) × (n ≤ state.store.session.accepted)
      × IsSomeAnd (slice_get state.texts n) (λ texts. RecoversTo (files_after texts) image)

  -- Wherever the run is stopped up to a state, the files are as they were found, or as after a
  -- prefix of the accepted commands.
  pub record StopsAtPrefix : Type 0 where
    pub any_moment : (state : Trace D) → IsIntermediate run state → g.honest state.store.disk
        → LeavesOver g disk state.store.disk
        (λ image. IsAsFound (g.files disk) image ⊎ IsAfterPrefix state 0 image)
    -- Where commands are to be done whole, the prefix is empty, or has all that were accepted as a
    -- line `settle` was run.
    pub whole : setup.group ≡ Whole → (state : Trace D)
        → (way : Reaches (traces_while_honest g) run.first
        run.run.ran run.run.out run.run.mid state)
        → g.honest state.store.disk
        → LeavesOver g disk state.store.disk
        (λ image. IsAsFound (g.files disk) image
        ⊎ HoldsWhole run run.first way.answered way.written state image)

  -- The command was refused, and that is the model's answer; the session, the list and all files
  -- are as before, and so is what a crash leaves of them.
  pub record ChangesNothing (old new : Trace D) (command : Command) (why : Refusal) : Type 0 where
    pub refuses : outcome old.store.session command ≡ Refuses why
    pub session : new.store.session ≡ old.store.session
    pub list : new.texts ≡ old.texts
    pub files : LeavesAlone g (λ name. Unit {0}) old.store.disk new.store.disk

  -- The replies and the files are the model's.
  pub record FollowsModel : Type 0 where
    -- It begins with the files that the disk recovered to, ..
    pub reopened : g.honest run.first.store.disk
        → IsReopened (g.files disk) (g.files run.first.store.disk)
    pub begins : Begins setup (contents (g.files run.first.store.disk)) run.first.store.session
    -- .. at each state the lines so far got the model's replies, and led to the model's session, ..
    pub so_far : (state : Trace D)
        → (way : Reaches (traces_while_honest g) run.first
        run.run.ran run.run.out run.run.mid state)
        → g.honest state.store.disk
        → Answers model run.first.store.session way.answered way.written state.store.session
    -- .. at place n of its list stand the files after the first n commands, ..
    pub lists : ListsFiles run
    -- .. and at the end the input was read, and what was written is the model's.
    pub serves : g.honest now → Serves run.first.store.session end run.last.store.session io

  -- Faults of the device are reported, and each comes from a call that failed.
  pub record CountsFaults : Type 0 where
    -- the end says whether a call failed
    pub reported : CountsFailures g disk now
        (SaysFailure (Ok end) (g.failures disk) (g.failures now))
    -- so does the last store, which is broken from the first reply `fault Device` on
    pub breaks : BreaksByCount run

  -- Files that are neither the store's, nor the journal, nor named by an open journal are left
  -- alone: up to each state, and at the end.
  pub record LeavesOthers : Type 0 where
    pub states : LeavesForeign run
    pub ended : g.honest now → LeavesAlone g (IsForeignTo g setup disk) disk now

  -- What a run promises that opened its store. The first two suppose that the folder is recoverable
  -- once the store's files are synced. It is if every other file is on the device; and if it is
  -- recoverable as it is, whichever files the store has (`folders_are_recoverable_once_synced`, a
  -- law).
  pub record KeepsPromises : Type 0 where
    -- 1. Wherever a run is stopped, opening the folder again leaves all files as they were after
    -- the first n accepted commands, for one n.
    pub one_prefix : IsRecoverableOnceSynced setup.names.items (g.files disk) → StopsAtPrefix
    -- 2. Since a state that wasn't broken, that n is at least the count that was acknowledged
    -- there, as `safe n` says (`safe_is_acknowledged`, a law).
    pub safe_stays : IsRecoverableOnceSynced setup.names.items (g.files disk)
        → (here later : Trace D) → IsIntermediateTo run here later → g.honest later.store.disk
        → IsFalse here.store.session.broken
        → LeavesOver g here.store.disk later.store.disk
        (IsAfterPrefix later here.store.session.acknowledged)
    -- 3. A refused command changes nothing, and the model fixes which refusal is answered.
    pub refused_changes_nothing : (old : Trace D) → IsIntermediate run old
        → (new : Trace D) (command : Command) (why : Refusal)
        → (traces_while_honest g).makes old (Ran command (Err (Refused why))) new
        → g.honest new.store.disk → ChangesNothing old new command why
    -- 4. What a command makes of the files is what the model says. Refiles and archives neither
    -- lose nor double an entry: `refiles_keep_counts` and `archives_keep_counts`, laws of org_store.
    pub as_the_model : FollowsModel
    -- 5. A fault of the device is reported, and only where a call failed.
    pub faults_are_counted : CountsFaults
    -- 6. No other file is written than the store's, the journal, and what an open journal names.
    pub others_untouched : LeavesOthers

-- .. and of a run whose store wasn't opened, for this reason: no line is read or answered
pub record KeepsUnopened {D : Type 0} (g : Ghosts D) (setup : Setup) (disk now : D)
    (fault : OpenFault) (io : Exchange) : Type 0 where
  pub one_prefix : IsRecoverableOnceSynced setup.names.items (g.files disk) → g.honest now
      → LeavesOver g disk now (IsAsFound (g.files disk))
  pub nothing_served : io.after ≡ io.before
  pub as_the_model : IsRefusedFor g setup.names.items disk now fault
  pub faults_are_counted : CountsFailures g disk now
      (SaysFailure (Err fault) (g.failures disk) (g.failures now))
  pub others_untouched : g.honest now → LeavesAlone g (IsForeignTo g setup disk) disk now

-- What a run promises, however it ended.
abbrev pub Promises : {D : Type 0} → Ghosts D → Setup → D → D → Result ServeEnd OpenFault
    → Exchange → Type 0
Promises g setup disk now (Ok end) io =
    (run : ServesOver g setup disk now end io) × KeepsPromises run
Promises g setup disk now (Err fault) io = KeepsUnopened g setup disk now fault io
