-- A whole run over a disk: a store is opened, serves the lines of an input, and is given up. `g` is
-- what is seen of a disk of the type D.
use Rattle.std.specs.Prelude.{◌≡◌, ◌⊎◌, ℕ, List, [], ◌∷◌, None, IsTrue, IsFalse, Result, Ok, Err, IfOk, IfErr, IsErr}
use Rattle.org_disk.specs.declared.disk.Disk.{Ghosts}
use Rattle.org_disk.specs.Disk.{AreImages, HasRisen}
use Rattle.org_disk.specs.CountsFailures.{CountsFailures, LeavesOver}
use Rattle.org_disk.specs.Names.{journal_name}
use Rattle.org_journal.specs.Recovered.{Image, IsRecoverable, contents, recovered}
use Rattle.org_fileset.specs.declared.open.OpenFault.{OpenFault}
use Rattle.org_fileset.specs.declared.open.OpenFault.TheVariants as open_fault
use Rattle.org_fileset.specs.Left.{EachIsLeft, IsLeft}
use Rattle.org_fileset.specs.Names.{with_archives, AreFew, AreSorted, first_large}
use Rattle.org_fileset.specs.Opening.{IsRefusedFor}
use Rattle.org_fileset.specs.Recovery.{EachRecovers, IsReopened, RecoversAsBefore, is_closed}
use Rattle.org_fileset.specs.Writes.{LeavesAlone, IsUnconcerned}
use Rattle.org_store.specs.History.{Lists, Trace}
use Rattle.org_commands.specs.declared.tally.Group.TheVariants.{Whole}
use Rattle.org_commands.specs.InOrder.{texts_of}
use Rattle.org_store.specs.Calls.{model}
use Rattle.org_store.specs.Opening.{opened}
use Rattle.org_commands.specs.Session.{Session, Holds}
use Rattle.org_serve.specs.declared.end.ServeEnd.{ServeEnd}
use Rattle.org_serve.specs.declared.end.ServeEnd.TheVariants.{End, Device, Read, Write}
use Rattle.org_serve.specs.declared.whole.Setup.{Setup}
use Rattle.org_serve.specs.History.{HoldsSettled, HoldsSince, Reaches}
use Rattle.org_serve.specs.Pipes.{EndsForCause, Exchange, output_of}
use Rattle.org_serve.specs.Serving.{Answers, MayHaveSettled, RunsLines, Serves, WritesSome, traces_while_honest}
use Rattle.org_serve.specs.Syncing.{IsNotStored, IsRecoverableOnceSynced, OutsideStaysStable, IsAsFound}

-- The session of a store that was just opened over these files, as it was set up: it has the given
-- names, which are few, and those of their archive files.
pub record Begins (setup : Setup) (files : Image) (begin : Session) : Type 0 where
  pub few : AreFew setup.names.items
  pub names : AreSorted (with_archives setup.names.items) begin.names
  pub session : begin
      ≡ record (opened setup.states begin.names (texts_of files begin.names))
      { group = setup.group }

-- The file of this name is none of a run's: it isn't one of a store's with these names, nor the
-- journal, which has these bytes, and no record names it that stands after an open gate.
pub record IsForeign (given : List (List ℕ)) (journal name : List ℕ) : Type 0 where
  pub outside : IsNotStored given name
  pub unconcerned : IsUnconcerned journal name

-- .. of a run that begins with this disk
abbrev pub IsForeignTo : {D : Type 0} → Ghosts D → Setup → D → List ℕ → Type 0
IsForeignTo g setup disk = IsForeign setup.names.items (contents (g.files disk) journal_name)

-- A store was set up and opened over the disk `disk`, served to this end, and gave up the disk
-- `now`. Between the two stands each intermediate store, and the list has the texts of all files as
-- they were opened and after each accepted command. What is said of a step is said where the disk
-- is honest after it.
pub record ServesOver {D : Type 0} (g : Ghosts D) (setup : Setup) (disk now : D) (end : ServeEnd)
    (io : Exchange) : Type 0 where
  pub first : Trace D
  pub last : Trace D
  -- a disk that is honest after the opening was so before it
  pub began : g.honest first.store.disk → g.honest disk
  -- what a crash had cut short was finished; a closed gate's byte was kept
  pub reopened : g.honest first.store.disk → IsReopened (g.files disk) (g.files first.store.disk)
  pub begins : Begins setup (contents (g.files first.store.disk)) first.store.session
  -- each of its files is within the limit then
  pub sizes : g.honest first.store.disk
      → first_large (contents (g.files first.store.disk)) first.store.session.names ≡ None
  pub texts : first.texts ≡ first.store.session.files ∷ []
  -- no file is dirty then
  pub dirty_files : first.store.dirty ≡ []
  -- files that are none of the run's were left alone
  pub alone : g.honest first.store.disk
      → LeavesAlone g (IsForeignTo g setup disk) disk first.store.disk
  pub run : RunsLines (traces_while_honest g) first last end io
  pub given_up : now ≡ last.store.disk
  -- commands that are to be done whole aren't settled at the end
  pub settled : MayHaveSettled setup.group (traces_while_honest g) run.mid last
  -- where a write or a flush failed, what was written begins the replies to the lines that were
  -- run, and what is written at the end
  pub reported : end ≡ Write
      → WritesSome setup.group run.input run.others run.out last.store.session.acknowledged
      (output_of io)
  -- the lines that an intermediate store had answered, and their replies
  pub so_far : (here : Trace D)
      → (way : Reaches (traces_while_honest g) first run.ran run.out run.mid here)
      → g.honest here.store.disk
      → Answers model first.store.session way.answered way.written here.store.session
  pub serves : g.honest now → Serves first.store.session end last.store.session io

-- What is said of the intermediate stores of a run.
module _ {D : Type 0} {g : Ghosts D} {setup : Setup} {disk now : D} {end : ServeEnd} {io : Exchange}
    (served : ServesOver g setup disk now end io) where
  -- The image recovers to the files after one prefix of the commands that were accepted at the one
  -- store: to the commands that were acknowledged at the other, or to no fewer than were accepted
  -- there.
  abbrev pub HoldsServed : (here later : Trace D) → Image → Type 0
  HoldsServed here later =
      HoldsSince served.first.store.session (contents (g.files served.first.store.disk)) here later

  -- The image recovers to the files after the commands that were acknowledged at the one store, or
  -- after all that were accepted after it as `settle` was run: these lines lead from the one to
  -- the other by these bytes.
  abbrev pub HoldsWhole : (here : Trace D) → List (List ℕ) → List ℕ → (later : Trace D) → Image
      → Type 0
  HoldsWhole here lines out later image =
      HoldsSettled (traces_while_honest g) served.first.store.session
      (contents (g.files served.first.store.disk)) here lines out later image

  -- an intermediate store of a run: after some of its lines were answered, from the first on, or at
  -- its end
  abbrev pub IsIntermediate : Trace D → Type 0
  IsIntermediate here =
      Reaches (traces_while_honest g) served.first served.run.ran served.run.out served.run.mid here
      ⊎ (here ≡ served.last)

  -- an intermediate store before another one
  abbrev pub IsIntermediateTo : Trace D → Trace D → Type 0
  IsIntermediateTo here later =
      ((way : Reaches (traces_while_honest g) served.first
      served.run.ran served.run.out served.run.mid later)
      × Reaches (traces_while_honest g) served.first way.answered way.written later here)
      ⊎ ((later ≡ served.last) × IsIntermediate here)

  -- Up to each intermediate store over a disk that is honest there, files that are none of the
  -- run's were left alone.
  abbrev pub LeavesForeign : Type 0
  LeavesForeign =
      (here : Trace D) → IsIntermediate here → g.honest here.store.disk
      → LeavesAlone g (IsForeignTo g setup disk) disk here.store.disk

  -- At place k of the list of an intermediate store stand the texts of all files after the first k
  -- of the commands that were accepted by then.
  abbrev pub ListsFiles : Type 0
  ListsFiles =
      (here : Trace D) → IsIntermediate here → g.honest here.store.disk
      → Lists here.store.session here.texts

  -- Up to each intermediate store over a disk that is honest there, a crash leaves no file that an
  -- opening finds changed by its bytes.
  abbrev pub LeavesNoneChanged : Type 0
  LeavesNoneChanged =
      (later : Trace D) → IsIntermediate later → g.honest later.store.disk
      → LeavesOver g disk later.store.disk IsLeft

  -- What a crash leaves of a run: up to each intermediate store over a disk that is honest there,
  -- at the last to the end. `Before` is what it leaves of what was there when the run began.
  pub record DurableFrom (Before : Image → Type 0) : Type 0 where
    -- since it began: what was there then, or the files after a prefix of the accepted commands
    pub any_moment : (later : Trace D) → IsIntermediate later → g.honest later.store.disk
        → LeavesOver g disk later.store.disk
        (λ image. Before image ⊎ HoldsServed served.first later image)
    -- since each intermediate store that wasn't broken: the commands that were acknowledged there,
    -- or no fewer than were accepted there
    pub since : (here later : Trace D) → IsIntermediateTo here later → g.honest later.store.disk
        → IsFalse here.store.session.broken
        → LeavesOver g here.store.disk later.store.disk (HoldsServed here later)
    -- Where commands are to be done whole, which `settle` alone does: since it began, what was
    -- there then, or the files after no command, or after all that were accepted as `settle` was
    -- run. The last store is one of these: it settles nothing.
    pub whole_moment : setup.group ≡ Whole → (later : Trace D)
        → (way : Reaches (traces_while_honest g) served.first
        served.run.ran served.run.out served.run.mid later)
        → g.honest later.store.disk
        → LeavesOver g disk later.store.disk
        (λ image. Before image
        ⊎ HoldsWhole served.first way.answered way.written later image)
    -- .. since each of its intermediate stores that wasn't broken: the commands that were
    -- acknowledged there, or all that were accepted as a later `settle` was run
    pub whole_since : setup.group ≡ Whole → (here later : Trace D)
        → (way : Reaches (traces_while_honest g) served.first
        served.run.ran served.run.out served.run.mid later)
        → (to : Reaches (traces_while_honest g) served.first way.answered way.written later here)
        → g.honest later.store.disk → IsFalse here.store.session.broken
        → LeavesOver g here.store.disk later.store.disk
        (HoldsWhole here to.others to.more later)
    -- at the end, where it ended well: all of them
    pub ended : g.honest now → end ≡ End → (image : Image) → AreImages (g.files now) image
        → Holds served.first.store.session
        (contents (g.files served.first.store.disk)) served.last.store.session.files image

  -- of a run over a disk that was recoverable: before, what the disk recovered to
  abbrev pub IsDurable : Type 0
  IsDurable = DurableFrom (RecoversAsBefore (g.files disk))

  -- The disk's count of failures says whether the last store is broken: so the intermediate stores
  -- answer no Device unless a call of the disk failed in the run, and a run in which one failed has
  -- a broken store at its end.
  pub record BreaksByCount : Type 0 where
    pub broken : IsTrue served.last.store.session.broken
        → HasRisen (g.failures disk) (g.failures now)
    pub sound : IsFalse served.last.store.session.broken → g.failures now ≡ g.failures disk

-- A run that opened its store: what it did, step by step, and what a crash leaves of it.
pub record ServesDisk {D : Type 0} (g : Ghosts D) (setup : Setup) (disk now : D) (end : ServeEnd)
    (io : Exchange) : Type 0 where
  pub served : ServesOver g setup disk now end io
  pub breaks : BreaksByCount served
  pub alone : LeavesForeign served
  pub lists : ListsFiles served
  -- over a disk that was recoverable, of which each image recovered to files
  pub lasts : IsRecoverable (g.files disk) → EachRecovers (g.files disk) → IsDurable served
  -- .. and left no file that is changed by its bytes
  pub left : IsRecoverable (g.files disk) → EachRecovers (g.files disk) → EachIsLeft (g.files disk)
      → LeavesNoneChanged served

-- .. and of one that syncs the store's files before it opens the store
pub record ServesSynced {D : Type 0} (g : Ghosts D) (setup : Setup) (disk now : D) (end : ServeEnd)
    (io : Exchange) : Type 0 where
  pub serves : ServesDisk g setup disk now end io
  -- over a disk that is recoverable once the store's files are synced
  pub lasts_found : IsRecoverableOnceSynced setup.names.items (g.files disk)
      → DurableFrom serves.served (IsAsFound (g.files disk))
  pub left_found : IsRecoverableOnceSynced setup.names.items (g.files disk)
      → EachIsLeft (g.files disk) → LeavesNoneChanged serves.served

-- What a run makes of a disk that is honest at the end: `disk` is what it was given, and `now` what
-- it gives back.
pub record LeavesDiskOfRun {D : Type 0} (g : Ghosts D) (setup : Setup) (disk now : D)
    (end : Result ServeEnd OpenFault) : Type 0 where
  -- where the opening is refused, on a recoverable disk of which each image recovers to files, a
  -- crash leaves what recovers to these
  pub unopened : IsRecoverable (g.files disk) → EachRecovers (g.files disk)
      → IfErr end (λ _. LeavesOver g disk now (RecoversAsBefore (g.files disk)))
  -- a journal that is bad, as it reads, is refused, and a crash leaves what it might have left
  -- before
  pub unopened_bad : recovered (contents (g.files disk)) ≡ None
      → IsErr end × LeavesOver g disk now (AreImages (g.files disk))
  -- over a whole journal with a closed gate, too, an opening that is refused leaves what might have
  -- been left before
  pub unopened_closed : IsTrue (is_closed (contents (g.files disk) journal_name))
      → IfErr end (λ _. LeavesOver g disk now (AreImages (g.files disk)))
  -- the disk is as recoverable at the end, so that all this may be done again
  pub recoverable : IsRecoverable (g.files disk) → EachRecovers (g.files disk)
      → IsRecoverable (g.files now) × EachRecovers (g.files now)
  -- Where a crash left no file that is changed by its bytes, it leaves none, however this ends; so
  -- none is left for the next run.
  pub left : IsRecoverable (g.files disk) → EachRecovers (g.files disk) → EachIsLeft (g.files disk)
      → LeavesOver g disk now IsLeft × EachIsLeft (g.files now)
  -- files that are none of the run's are left alone, however it ends, and whatever is on the disk
  pub alone : LeavesAlone g (IsForeignTo g setup disk) disk now

-- The same of a run that syncs the store's files before it opens the store, and more where the disk
-- is recoverable then.
pub record LeavesSyncedDisk {D : Type 0} (g : Ghosts D) (setup : Setup) (disk now : D)
    (end : Result ServeEnd OpenFault) : Type 0 where
  -- whatever is on the disk at first
  pub leaves_disk : LeavesDiskOfRun g setup disk now end
  -- where the opening is refused, a crash leaves the files as they were found, or what recovers to
  -- what they read as
  pub unopened_as_found : IsRecoverableOnceSynced setup.names.items (g.files disk)
      → IfErr end (λ _. LeavesOver g disk now (IsAsFound (g.files disk)))
  -- the disk is recoverable at the end; or the store wasn't opened, and those of the other files
  -- that were on the disk still are
  pub recoverable_once_synced : IsRecoverableOnceSynced setup.names.items (g.files disk)
      → (IsRecoverable (g.files now) × EachRecovers (g.files now))
      ⊎ (IsErr end × OutsideStaysStable setup.names.items (g.files disk) (g.files now))
  pub left_once_synced : IsRecoverableOnceSynced setup.names.items (g.files disk)
      → EachIsLeft (g.files disk) → LeavesOver g disk now IsLeft × EachIsLeft (g.files now)

-- The disk failed in a run that ended so: the fault of the opening says it, or the end. An end
-- with a failed read or write says nothing of the disk.
abbrev pub SaysFailure : Result ServeEnd OpenFault → ℕ → ℕ → Type 0
SaysFailure (Err fault) before now = fault ≡ open_fault.Device
SaysFailure (Ok Device) before now = Unit {0}
SaysFailure (Ok Read) before now = HasRisen before now
SaysFailure (Ok Write) before now = HasRisen before now
SaysFailure (Ok end) before now = ⊥

-- All that is said of a run, in at most this many reads: what it did where it opened its store
-- (`Serves`), and what it leaves of the disk (`Leaves`).
pub record RunsAs {D : Type 0} (g : Ghosts D) (setup : Setup) (max_reads : ℕ) (disk now : D)
    (end : Result ServeEnd OpenFault) (io : Exchange) (Serves : ServeEnd → Type 0) (Leaves : Type 0)
    : Type 0 where
  pub served : IfOk end Serves
  pub leaves_disk : g.honest now → Leaves
  pub refused : IfErr end (IsRefusedFor g setup.names.items disk now)
  pub unserved : IfErr end (λ _. io.after ≡ io.before)
  pub causes : EndsForCause max_reads end io
  pub accounts : CountsFailures g disk now (SaysFailure end (g.failures disk) (g.failures now))

-- .. of one that syncs the store's files before it opens the store
abbrev pub RunsSynced : {D : Type 0} → Ghosts D → Setup → ℕ → D → D → Result ServeEnd OpenFault
    → Exchange → Type 0
RunsSynced g setup max_reads disk now end io =
    RunsAs g setup max_reads disk now end io
    (λ end. ServesSynced g setup disk now end io) (LeavesSyncedDisk g setup disk now end)
