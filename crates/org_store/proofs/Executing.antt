-- What calls over a store's files do, said of the store.
use Rattle.std.proofs.Common.{◌≡◌, ◌⊎◌, inl, inr, ⊎_elim, ℕ, ◌+◌, Bool, false, true, List, Result, Ok, Err, refl, sym, ◌∙◌, ap, subst}
use Rattle.std.specs.Prelude.{◌↔◌, IsErrOf, IsTrue}
use Rattle.std.proofs.lemmas.Bool.{false≢true}
use Rattle.org_disk.specs.declared.disk.Disk.{Ghosts}
use Rattle.org_disk.specs.Disk.{FileState, AreImages}
use Rattle.org_outline.specs.States.{Keywords}
use Rattle.org_journal.specs.Recovered.{Image, contents}
use Rattle.org_fileset.proofs.Writes.{alone_fewer}
use Rattle.org_texts.specs.declared.plan.Plan.{Plan}
use Rattle.org_texts.specs.Texts.{Holding}
use Rattle.org_commands.specs.declared.command.Command.{Command}
use Rattle.org_commands.specs.declared.command.Command.TheVariants.{Settle}
use Rattle.org_fault.specs.declared.refusal.Refusal.{Refusal}
use Rattle.org_fault.specs.declared.refusal.Refusal.TheVariants.{NoSuchFile, BadTemplate, BadEntry, NotFound, NotUnique, InsideItself, AlreadyArchive, UnknownState, OddPlanning, BadRepeat, DateRange, NoClock, ClockBackwards, BadLocation, NotThere, TooLarge}
use Rattle.org_commands.specs.declared.command.Reply.{Reply}
use Rattle.org_commands.specs.declared.command.Reply.TheVariants.{Done, Safe, Text, Time}
use Rattle.org_commands.specs.declared.command.RunFault.{RunFault}
use Rattle.org_commands.specs.declared.command.RunFault.TheVariants.{Refused, OutOfMemory, Device, Broken}
use Rattle.org_commands.specs.declared.tally.Tally.{Tally}
use Rattle.org_commands.specs.Files.{OpenFiles, PutsPlan, new_texts}
use Rattle.org_commands.specs.InOrder.{texts_of}
use Rattle.org_commands.specs.Outcome.{Outcome, Accepts, AsksToSettle, Refuses, changed, outcome, written}
use Rattle.org_commands.specs.Questions.{IsUncounted}
use Rattle.org_commands.specs.Reading.{OnlyReads}
use Rattle.org_commands.specs.Session.{StoreView, Session, view_over}
use Rattle.org_commands.specs.Step.{Steps, done, fills, settled}
use Rattle.org_commands.proofs.Committing.{leaves_as}
use Rattle.org_commands.proofs.Faults.{accounts_as, accounts_behind, accounts_memory, whole_behind}
use Rattle.org_store.specs.Counts.{Counts, SameCounts}
use Rattle.org_store.specs.Dirty.{Dirties, DirtyAfter}
use Rattle.org_store.specs.Executing.{Executes, SettlesPending}
use Rattle.org_store.specs.Left.{IsLeft, IsLeftAlone, IsSpared, MayHaveWritten, PutsOnDisk}
use Rattle.org_store.specs.Runs.{LeavesDisk, RunsOver, SaysBroken, StaysWhereNeedless}
use Rattle.org_store.proofs.Dirty.{dirties_none, dirty_from, dirty_stays, other_joined}
use Rattle.org_store.proofs.Keeping.{refuses_large}
use Rattle.org_store.proofs.Leaving.{leaves_after, leaves_same, leaves_unwritten}

-- counts that stay
uncounted_counts : (old new : Session) → SameCounts old new → (answer : Result Reply RunFault) → IsUncounted answer → Counts old answer new
uncounted_counts old new same (Ok (Done n)) uncounted = absurd uncounted
uncounted_counts old new same (Ok (Safe n)) uncounted = absurd uncounted
uncounted_counts old new same (Ok (Text text)) uncounted = same
uncounted_counts old new same (Ok (Time minutes)) uncounted = same
uncounted_counts old new same (Err (Refused why)) uncounted = same
uncounted_counts old new same (Err OutOfMemory) uncounted = same
uncounted_counts old new same (Err Device) uncounted = (inl same.accepted, same.acknowledged, same.group)
uncounted_counts old new same (Err Broken) uncounted = same

still : (old mid new : Session) → SameCounts old mid → SameCounts mid new → SameCounts old new
still old mid new first second = record { accepted = second.accepted ∙ first.accepted; acknowledged = second.acknowledged ∙ first.acknowledged; group = second.group ∙ first.group }

counts_from : (old mid new : Session) → SameCounts old mid → (answer : Result Reply RunFault) → Counts mid answer new → Counts old answer new
counts_from old mid new same (Ok (Done n)) counts = rw (same.accepted, same.acknowledged, same.group) at counts
counts_from old mid new same (Ok (Safe n)) counts = rw (same.accepted, same.group) at counts
counts_from old mid new same (Ok (Text text)) counts = still old mid new same counts
counts_from old mid new same (Ok (Time minutes)) counts = still old mid new same counts
counts_from old mid new same (Err (Refused why)) counts = still old mid new same counts
counts_from old mid new same (Err OutOfMemory) counts = still old mid new same counts
counts_from old mid new same (Err Device) counts = rw (same.accepted, same.acknowledged, same.group) at counts
counts_from old mid new same (Err Broken) counts = still old mid new same counts

-- a call of a store that wasn't broken
pub says_broken : {A : Type 0} (old new : Session) (answer : Result A RunFault) → old.broken ≡ false → (IsErrOf answer Broken → ⊥) → IsErrOf answer Device ↔ IsTrue new.broken → SaysBroken old answer new
says_broken old new answer unbroken works breaks = record {
  before = (λ broken. absurd (works broken), λ broken. absurd (false≢true (sym unbroken ∙ broken)));
  behind = (λ broken. inr (breaks.1 broken), ⊎_elim (λ broken. absurd (false≢true (sym unbroken ∙ broken))) breaks.0);
}

module _ {D : Type 0} (g : Ghosts D) (old : StoreView D)
    (start : g.honest old.disk → (image : Image) → g.left_since old.disk (g.instant old.disk) image → AreImages (g.files old.disk) image)
    (own : old.session.settled ≡ texts_of (contents (g.files old.disk)) old.session.names) (unbroken : old.session.broken ≡ false) where
  whole : IsTrue old.session.broken → ⊥
  whole broken = false≢true (sym unbroken ∙ broken)

  -- a call that changes nothing, for this reason
  module _ (new : StoreView D) (same : new ≡ old) (outcome : Outcome) where
    unwritten : (fault : RunFault) → (IsErrOf {T = Reply} (Err fault) Broken → ⊥) → (IsErrOf {T = Reply} (Err fault) Device → ⊥) → Steps old.session outcome (Err fault) old.session → Counts old.session (Err fault) old.session
        → Executes g old outcome (Err fault) new
    unwritten fault works fine steps counts = subst (λ (k : StoreView D). Executes g old outcome (Err fault) k) (sym same) (record {
      step = λ h. steps;
      disk = λ h. leaves_unwritten g old (IsLeft {A = Reply} old.session (contents (g.files old.disk)) outcome (Err fault) old.session.accepted)
          (IsLeftAlone {A = Reply} old.session old.dirty outcome (Err fault) old.session.accepted) (IsErrOf {T = Reply} (Err fault) Device) (start h) own (λ image holds. inl holds) old refl own;
      dirty_files = λ h. refl;
      counts = counts;
      broken = says_broken old.session old.session (Err fault) unbroken works (λ fell. absurd (fine fell), λ broken. absurd (whole broken));
      accounts = accounts_memory refl fine;
    })

    pub executes_refused : (why : Refusal) → outcome ≡ Refuses why → Executes g old outcome (Err (Refused why)) new
    executes_refused why is = unwritten (Refused why) (λ broken. absurd (cc)) (λ fell. absurd (cc)) (unbroken, is, refl) (record { accepted = refl; acknowledged = refl; group = refl })

    pub executes_starved : Executes g old outcome (Err OutOfMemory) new
    executes_starved = unwritten OutOfMemory (λ broken. absurd (cc)) (λ fell. absurd (cc)) (unbroken, refl) (record { accepted = refl; acknowledged = refl; group = refl })

  -- a plan that couldn't be put
  pub executes_unput : (new : StoreView D) → new ≡ old → (plan : Plan) (held next : Holding) (fault : RunFault) → PutsPlan plan held (Err fault) next → Executes g old (changed old.session (new_texts plan held.now)) (Err fault) new
  executes_unput new same plan held next (Refused TooLarge) puts = executes_refused new same (changed old.session (new_texts plan held.now)) TooLarge (refuses_large old.session (new_texts plan held.now) puts.0)
  executes_unput new same plan held next (Refused NoSuchFile) puts = absurd puts
  executes_unput new same plan held next (Refused NotThere) puts = absurd puts
  executes_unput new same plan held next (Refused BadTemplate) puts = absurd puts
  executes_unput new same plan held next (Refused BadEntry) puts = absurd puts
  executes_unput new same plan held next (Refused NotFound) puts = absurd puts
  executes_unput new same plan held next (Refused NotUnique) puts = absurd puts
  executes_unput new same plan held next (Refused InsideItself) puts = absurd puts
  executes_unput new same plan held next (Refused AlreadyArchive) puts = absurd puts
  executes_unput new same plan held next (Refused UnknownState) puts = absurd puts
  executes_unput new same plan held next (Refused OddPlanning) puts = absurd puts
  executes_unput new same plan held next (Refused BadRepeat) puts = absurd puts
  executes_unput new same plan held next (Refused DateRange) puts = absurd puts
  executes_unput new same plan held next (Refused NoClock) puts = absurd puts
  executes_unput new same plan held next (Refused ClockBackwards) puts = absurd puts
  executes_unput new same plan held next (Refused BadLocation) puts = absurd puts
  executes_unput new same plan held next OutOfMemory puts = executes_starved new same (changed old.session (new_texts plan held.now))
  executes_unput new same plan held next Device puts = absurd puts
  executes_unput new same plan held next Broken puts = absurd puts

  -- one more command, which gives these files new texts
  module _ (outcome : Outcome) (names dirty texts : List (List ℕ)) (dirties : Dirties old.dirty names dirty) (accepts : outcome ≡ Accepts names texts) where
    -- the store with this command counted and not settled
    abbrev pending : StoreView D
    pending = record old { session = record old.session { files = texts; accepted = old.session.accepted + 1 }; dirty = dirty }

    -- its texts are kept in memory
    pub executes_kept : fills old.session ≡ false → Executes g old outcome (Ok (Done (old.session.accepted + 1))) pending
    executes_kept room = record {
      step = λ h. (unbroken, (texts, (names, accepts), refl, rw room refl));
      disk = λ h. leaves_unwritten g old (IsLeft old.session (contents (g.files old.disk)) outcome (Ok (Done (old.session.accepted + 1))) (old.session.accepted + 1))
          (IsLeftAlone old.session old.dirty outcome (Ok (Done (old.session.accepted + 1))) (old.session.accepted + 1)) (IsErrOf {T = Reply} (Ok (Done (old.session.accepted + 1))) Device) (start h) own (λ image holds. inl holds) pending refl own;
      dirty_files = λ h. (λ full. absurd (false≢true (sym room ∙ full)), subst (λ (o : Outcome). Dirties old.dirty (written o) dirty) (sym accepts) dirties);
      counts = (refl, refl, rw room refl, refl);
      broken = says_broken old.session pending.session (Ok (Done (old.session.accepted + 1))) unbroken (λ broken. absurd (cc)) (λ fell. absurd (cc), λ broken. absurd (whole broken));
      accounts = accounts_memory refl (λ fell. absurd (cc));
    }

    -- it fills the group, and all is settled: what that leaves of the disk
    leaves_filled : (given : Result (Unit {0}) RunFault) (answer : Result Reply RunFault) (new : StoreView D) → fills old.session ≡ true → new.session.accepted ≡ old.session.accepted + 1
        → (MayHaveWritten given → MayHaveWritten answer) → (IsErrOf given Device → IsErrOf answer Device)
        → LeavesDisk g pending new (IsLeft pending.session (contents (g.files old.disk)) AsksToSettle given new.session.accepted) (IsLeftAlone pending.session dirty AsksToSettle given new.session.accepted) (IsErrOf given Device)
        → LeavesDisk g old new (IsLeft old.session (contents (g.files old.disk)) outcome answer new.session.accepted) (IsLeftAlone old.session old.dirty outcome answer new.session.accepted) (IsErrOf answer Device)
    leaves_filled given answer new full counted wrote failed leaves = record {
      any_moment = λ rest. leaves_as (leaves.any_moment rest) (λ image left. ⊎_elim (λ held. inl held)
          (λ put. inr (wrote put.0, (put.1.0, subst (λ (o : Outcome). PutsOnDisk old.session o new.session.accepted put.1.0) (sym accepts) (put.1.1, full, counted), put.1.2))) left);
      left = leaves.left;
      others = λ fine. leaves.others (λ fell. fine (failed fell));
      rest = λ fine. leaves.rest (λ fell. fine (failed fell));
      recoverable = leaves.recoverable;
      alone = alone_fewer g (IsLeftAlone old.session old.dirty outcome answer new.session.accepted) (IsLeftAlone pending.session dirty AsksToSettle given new.session.accepted) old.disk new.disk leaves.alone
          (λ name this writing. other_joined old.dirty names dirty dirties name (subst (λ (o : Outcome). IsSpared old.session old.dirty o new.session.accepted name) accepts (this (wrote writing)) full counted));
    }

    pub executes_filled : fills old.session ≡ true → (new : StoreView D) → SettlesPending g pending (Ok (tt {0})) new → Executes g old outcome (Ok (Done (old.session.accepted + 1))) new
    executes_filled full new settles =
        let answer : Result Reply RunFault = Ok (Done (old.session.accepted + 1)) in
        let whole_group : settled pending.session ≡ done old.session texts = rw full refl in
        record {
          step = λ h. (unbroken, (texts, (names, accepts), refl, (settles.did h).step.1 ∙ whole_group));
          disk = λ h. leaves_filled (Ok (tt {0})) answer new full settles.counts.accepted (λ wrote. tt) (λ fell. absurd (cc)) (settles.did h).disk;
          dirty_files = λ h. (λ full. (settles.did h).dirty_files, subst (Dirties old.dirty (written outcome)) (sym (settles.did h).dirty_files) (dirties_none old.dirty (written outcome)));
          counts = (refl, settles.counts.accepted, rw full settles.counts.acknowledged, settles.counts.group);
          broken = says_broken old.session new.session answer unbroken (λ broken. absurd (cc)) (λ fell. absurd (cc), λ broken. ⊎_elim (λ was. absurd (whole was)) (λ fell. absurd (cc)) (settles.broken.behind.0 broken));
          accounts = accounts_as refl (λ fell. absurd (cc)) (λ fell. absurd (cc)) settles.accounts;
        }

    -- the disk failed meanwhile, and the texts that are held are any
    pub executes_torn : fills old.session ≡ true → (mid : StoreView D) → SettlesPending g pending (Err Device) mid → (files : List (List ℕ))
        → Executes g old outcome (Err Device) (record mid { session = record mid.session { files = files }; dirty = old.dirty })
    executes_torn full mid settles files =
        let torn_now = λ (h : g.honest mid.disk). (settles.did h).step.1 in
        let broke : mid.session.broken ≡ true = settles.broken.behind.1 (inr refl) in
        record {
          step = λ h. (unbroken, inr (inl (texts, files, (torn_now h).1, (names, accepts), full, ap (λ (s : Session). record s { files = files }) (torn_now h).2)));
          disk = λ h.
              let leaves = leaves_filled (Err Device) (Err Device) mid full settles.counts.accepted (λ wrote. wrote) (λ fell. refl) (settles.did h).disk in
              record { any_moment = leaves.any_moment; left = leaves.left; others = leaves.others; rest = leaves.rest; recoverable = leaves.recoverable; alone = leaves.alone };
          dirty_files = λ h. refl;
          counts = (inr settles.counts.accepted, settles.counts.acknowledged, settles.counts.group);
          broken = says_broken old.session (record mid.session { files = files }) (Err Device) unbroken (λ broken. absurd (cc)) (λ fell. broke, λ broken. refl);
          accounts = accounts_as refl (λ fell. refl) (λ fell. refl) settles.accounts;
        }

-- ---- calls that read files

module _ {D : Type 0} (g : Ghosts D) (states : Keywords) (old : OpenFiles D) (tally : Tally)
    (start : g.honest old.disk → (image : Image) → g.left_since old.disk (g.instant old.disk) image → AreImages (g.files old.disk) image) (unbroken : old.broken ≡ false) where
  abbrev before : StoreView D
  before = view_over g.files states old tally

  -- a call that counts nothing
  pub executes_read : (new : OpenFiles D) (outcome : Outcome) (answer : Result Reply RunFault) → IsUncounted answer → OnlyReads g old new answer
      → (g.honest new.disk → Steps before.session outcome answer (view_over g.files states new tally).session) → Executes g before outcome answer (view_over g.files states new tally)
  executes_read new outcome answer uncounted reads steps =
      let now : StoreView D = view_over g.files states new tally in
      record {
        step = steps;
        disk = λ h. leaves_same g before (IsLeft before.session (contents (g.files old.disk)) outcome answer tally.accepted) (IsLeftAlone before.session before.dirty outcome answer tally.accepted) (IsErrOf answer Device)
            (start (reads.accounts.was_honest h)) refl (λ image holds. inl holds) now (reads.looks h).time (reads.looks h).same refl;
        dirty_files = λ h. dirty_stays before now outcome answer uncounted reads.dirty_files;
        counts = uncounted_counts before.session now.session (record { accepted = refl; acknowledged = refl; group = refl }) answer uncounted;
        broken = says_broken before.session now.session answer unbroken reads.works reads.breaks;
        accounts = reads.accounts;
      }

  -- a call after one that only read
  pub executes_after : {A : Type 0} (mid : OpenFiles D) (planned : Result A RunFault) (x : A) → planned ≡ Ok x → OnlyReads g old mid planned → (outcome later : Outcome)
      → (g.honest mid.disk → (outcome ≡ later) × ((view_over g.files states mid tally).session ≡ before.session)) → (new : StoreView D) (answer : Result Reply RunFault)
      → Executes g (view_over g.files states mid tally) later answer new → Executes g before outcome answer new
  executes_after mid planned x fine reads outcome later plans new answer executes =
      let now : StoreView D = view_over g.files states mid tally in
      let was = executes.accounts.was_honest in
      let same : mid.broken ≡ old.broken = whole_behind planned x Device mid.broken fine reads.breaks ∙ sym unbroken in
      record {
        step = λ h. let is = plans (was h) in subst (λ (s : Session). Steps s outcome answer new.session) is.1 (subst (λ (o : Outcome). Steps now.session o answer new.session) (sym is.0) (executes.step h));
        disk = λ h.
            let is = plans (was h) in
            let looked = reads.looks (was h) in
            leaves_after g before (IsLeft before.session (contents (g.files old.disk)) outcome answer new.session.accepted) (IsLeftAlone before.session before.dirty outcome answer new.session.accepted) (IsErrOf answer Device)
            (start (reads.accounts.was_honest (was h))) refl (λ image holds. inl holds)
            now new (IsLeft now.session (contents (g.files mid.disk)) later answer new.session.accepted) (IsLeftAlone now.session now.dirty later answer new.session.accepted) (IsErrOf answer Device) looked.time looked.same (executes.disk h)
            (λ image left. subst (λ (s : Session). IsLeft s (contents (g.files old.disk)) outcome answer new.session.accepted image) is.1
            (subst (λ (o : Outcome). IsLeft now.session (contents (g.files old.disk)) o answer new.session.accepted image) (sym is.0)
            (subst (λ (f : List ℕ → FileState). IsLeft now.session (contents f) later answer new.session.accepted image) looked.same left)))
            (λ name this. rw (is.1, reads.dirty_files) (subst (λ (o : Outcome). IsLeftAlone before.session before.dirty o answer new.session.accepted name) is.0 this))
            (λ fell. fell);
        dirty_files = λ h. let is = plans (was h) in dirty_from before now new outcome answer is.1 reads.dirty_files (subst (λ (o : Outcome). DirtyAfter now o answer new) (sym is.0) (executes.dirty_files h));
        counts = counts_from before.session now.session new.session (record { accepted = refl; acknowledged = refl; group = refl }) answer executes.counts;
        broken = record {
          before = subst (λ (b : Bool). IsErrOf answer Broken ↔ IsTrue b) same executes.broken.before;
          behind = subst (λ (b : Bool). IsTrue new.session.broken ↔ (IsTrue b ⊎ IsErrOf answer Device)) same executes.broken.behind;
        };
        accounts = accounts_behind planned x fine reads.accounts executes.accounts;
      }

-- ---- commands, as `Store::run` says it

module _ {D : Type 0} (g : Ghosts D) (old new : StoreView D) (command : Command) (answer : Result Reply RunFault) (unbroken : old.session.broken ≡ false) (apart : command ≡ Settle → ⊥)
    (executes : Executes g old (outcome old.session command) answer new) where
  pub runs_idle : StaysWhereNeedless (command ≡ Settle) old answer new
  runs_idle = record {
    untouched = λ broken. absurd (false≢true (sym unbroken ∙ executes.broken.before.0 broken));
    nothing = λ asks none. absurd (apart asks);
    unneeded = λ asks none. absurd (apart asks);
  }

  pub ran : g.honest new.disk → RunsOver g old command answer new
  ran honest = record { step = executes.step honest; disk = executes.disk honest; dirty_files = executes.dirty_files honest; idle = runs_idle }
