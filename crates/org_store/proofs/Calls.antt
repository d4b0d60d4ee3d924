-- Runs of all the calls of a store: a settling goes on as the command to settle does.
use Rattle.std.proofs.Common.{◌≡◌, ◌⊎◌, inl, inr, ⊎_elim, ℕ, ◌≤◌, true, false, List, [], ◌∷◌, Result, Ok, Err, refl, sym, ◌∙◌, ap, subst, arith}
use Rattle.org_disk.specs.declared.disk.Disk.{Ghosts}
use Rattle.std.specs.Prelude.{slice_get, Some, IsErrOf}
use Rattle.std.proofs.lemmas.Bool.{cases_Bool, false≢true}
use Rattle.org_disk.specs.Disk.{AreImages, LeavesOnly}
use Rattle.org_disk.proofs.Moments.{passes_as}
use Rattle.org_journal.specs.Recovered.{Image, IsRecoverable, contents}
use Rattle.org_fileset.specs.Replay.{IsAtRest}
use Rattle.org_fileset.proofs.Writes.{alone_fewer}
use Rattle.org_commands.specs.declared.command.Command.TheVariants.{Settle}
use Rattle.org_commands.specs.declared.command.Reply.{Reply}
use Rattle.org_commands.specs.declared.command.Reply.TheVariants.{Safe}
use Rattle.org_commands.specs.declared.command.RunFault.{RunFault}
use Rattle.org_commands.specs.declared.command.RunFault.TheVariants.{Refused, OutOfMemory, Device, Broken}
use Rattle.org_store.specs.Calls.{Call, grouped, MakesAll, MakesOver, Traces, traces}
use Rattle.org_store.specs.Calls.Call.{Ran, Settled, Grouped}
use Rattle.org_store.specs.History.{Trace, Lists, HoldsPrefix}
use Rattle.org_store.specs.Left.{IsLeftAlone, MayHaveWritten}
use Rattle.org_commands.specs.Outcome.{AsksToSettle, outcome}
use Rattle.org_store.specs.Runs.{RunsOver, SettlesOver, IsOnDisk}
use Rattle.org_commands.specs.declared.tally.Group.{Group}
use Rattle.org_commands.specs.Session.{Session, StoreView, Holds}
use Rattle.org_commands.specs.Step.{Step, Settles}
use Rattle.org_store.specs.Dirty.{DirtyAfter, DirtyAfterSettled}
use Rattle.org_store.proofs.History.{Begin, Counts, adds, begin_adds, further, lists_settling, lists_step, none_added, same_or_sound, texts_after, torn}
use Rattle.org_store.proofs.Keeping.{left_as}
use Rattle.org_store.proofs.Runs.{Course, answers_broken, course_none, course_run, course_leaves, falls, leaves_as, no_settling, settling_ends}

-- A settling, and the command to settle.

abbrev pub reply_of : ℕ → Result (Unit {0}) RunFault → Result Reply RunFault
reply_of n (Ok _) = Ok (Safe n)
reply_of n (Err fault) = Err fault

fault_of_reply : (n : ℕ) (answer : Result (Unit {0}) RunFault) (fault : RunFault) → IsErrOf (reply_of n answer) fault → IsErrOf answer fault
fault_of_reply n (Ok _) fault is = absurd (cc)
fault_of_reply n (Err found) fault is = let same : found ≡ fault = cc in ap (λ (f : RunFault). Err f) same

pub settle_steps : (old new : Session) (answer : Result (Unit {0}) RunFault) → Settles old answer new → Step old Settle (reply_of old.accepted answer) new
settle_steps old new (Ok _) step = (step.0, refl, refl, step.1)
settle_steps old new (Err (Refused why)) step = absurd step
settle_steps old new (Err OutOfMemory) step = step
settle_steps old new (Err Device) step = (step.0, inr (inr (step.1.0, step.1.1, refl, step.1.2)))
settle_steps old new (Err Broken) step = step

settle_wrote : (n : ℕ) (answer : Result (Unit {0}) RunFault) → MayHaveWritten answer → MayHaveWritten (reply_of n answer)
settle_wrote n (Ok _) wrote = wrote
settle_wrote n (Err fault) wrote = wrote

module _ {D : Type 0} (g : Ghosts D) where
  abbrev Goes : StoreView D → StoreView D → (Session → Type 0) → Type 0
  Goes old new P = Course g old new P

  abbrev Made : Trace D → Call → Trace D → Type 0
  Made old call new = Traces g old call new

  abbrev AllMade : Trace D → List Call → Trace D → Type 0
  AllMade old calls new = MakesAll (traces g) old calls new

  dirty_settled : (old new : StoreView D) (n : ℕ) (answer : Result (Unit {0}) RunFault) → DirtyAfterSettled old.dirty answer new.dirty → DirtyAfter old AsksToSettle (reply_of n answer) new
  dirty_settled old new n (Ok done) dirty_files = dirty_files
  dirty_settled old new n (Err fault) dirty_files = dirty_files

  pub settling_runs : (old new : StoreView D) (answer : Result (Unit {0}) RunFault) → SettlesOver g old answer new
      → RunsOver g old Settle (reply_of old.session.accepted answer) new
  settling_runs old new answer ran =
      let n = old.session.accepted in
      record {
        step = settle_steps old.session new.session answer ran.step;
        disk = record {
          any_moment = λ rest. leaves_as (ran.disk.any_moment rest)
              (λ image left. left_as old.session (contents (g.files old.disk)) AsksToSettle answer (reply_of n answer) new.session.accepted image (settle_wrote n answer) left);
          left = ran.disk.left;
          others = λ fine. ran.disk.others (λ failed. fine (ap (reply_of n) failed));
          rest = λ fine. ran.disk.rest (λ failed. fine (ap (reply_of n) failed));
          recoverable = ran.disk.recoverable;
          alone = alone_fewer g (IsLeftAlone old.session old.dirty AsksToSettle (reply_of n answer) new.session.accepted) (IsLeftAlone old.session old.dirty AsksToSettle answer new.session.accepted)
              old.disk new.disk ran.disk.alone (λ name this wrote. this (settle_wrote n answer wrote));
        };
        dirty_files = dirty_settled old new n answer ran.dirty_files;
        idle = record {
          untouched = λ broken. ran.idle.untouched (fault_of_reply n answer Broken broken);
          nothing = λ is. ran.idle.nothing tt;
          unneeded = λ is. ran.idle.unneeded tt;
        };
      }

  -- The list goes on with each call.

  pub call_listed : (old : Trace D) (new : StoreView D) (call : Call) → MakesOver g old.store call new → (now : Trace D) × (now.store ≡ new) × Made old call now
  call_listed old new (Ran command answer) ran = (
    record { store = new; texts = texts_after (outcome old.store.session command) old.store.session.accepted new.session.accepted old.texts },
    refl,
    (ran, adds old.store.session new.session command answer old.texts ran.step),
  )
  call_listed old new (Settled answer) ran = (record { store = new; texts = old.texts }, refl, (ran, refl))
  call_listed old new (Grouped group) set = (record { store = new; texts = old.texts }, refl, (set, refl))

  pub call_lists : (old new : Trace D) (call : Call) → Made old call new → Lists old.store.session old.texts → Lists new.store.session new.texts
  call_lists old new (Ran command answer) made lists = lists_step old.store.session new.store.session command answer old.texts new.texts made.0.step made.1 lists
  call_lists old new (Settled answer) made lists = subst (Lists new.store.session) (sym made.1) (lists_settling old.store.session new.store.session answer old.texts made.0.step lists)
  call_lists old new (Grouped group) made lists =
      subst (λ (k : StoreView D). Lists k.session new.texts) (sym made.0)
      (subst (Lists (grouped group old.store).session) (sym made.1) (record { size = lists.size; order = lists.order; files = lists.files; settled = lists.settled }))

  pub calls_list : (old new : Trace D) (calls : List Call) → Lists old.store.session old.texts → AllMade old calls new → Lists new.store.session new.texts
  calls_list old new [] lists run = subst (λ (p : Trace D). Lists p.store.session p.texts) (sym run) lists
  calls_list old new (call ∷ calls) lists run = calls_list run.0 new calls (call_lists old run.0 call run.1 lists) run.2

  begin_call : (old new : Trace D) (call : Call) → Made old call new → Begin old.texts new.texts
  begin_call old new (Ran command answer) made = begin_adds (outcome old.store.session command) old.store.session.accepted new.store.session.accepted old.texts new.texts made.1
  begin_call old new (Settled answer) made = subst (Begin old.texts) (sym made.1) (λ k texts is. is)
  begin_call old new (Grouped group) made = subst (Begin old.texts) (sym made.1) (λ k texts is. is)

  begin_calls : (old new : Trace D) (calls : List Call) → AllMade old calls new → Begin old.texts new.texts
  begin_calls old new [] run = subst (λ (p : Trace D). Begin old.texts p.texts) (sym run) (λ k texts is. is)
  begin_calls old new (call ∷ calls) run = λ k texts is. begin_calls run.0 new calls run.2 k texts (begin_call old run.0 call run.1 k texts is)

  -- A store that was broken stays as it is, but for its group.

  pub record Keeps (old new : Trace D) : Type 0 where
    pub store : new.store ≡ grouped new.store.session.group old.store
    pub texts : new.texts ≡ old.texts

  keeps_same : (old new : Trace D) → new.store ≡ old.store → new.texts ≡ old.texts → Keeps old new
  keeps_same old new same texts = record {
    store = subst (λ (k : StoreView D). k ≡ grouped k.session.group old.store) (sym same) refl;
    texts = texts;
  }

  kept_broken : (old new : Trace D) → Keeps old new → new.store.session.broken ≡ old.store.session.broken
  kept_broken old new keeps = ap (λ (k : StoreView D). k.session.broken) keeps.store

  broken_call : (old new : Trace D) (call : Call) → old.store.session.broken ≡ true → Made old call new → Keeps old new
  broken_call old new (Ran command answer) fell made =
      let same = made.0.idle.untouched (answers_broken old.store.session new.store.session command answer made.0.step fell) in
      keeps_same old new same
      (none_added (outcome old.store.session command) old.store.session.accepted new.store.session.accepted old.texts new.texts made.1 (ap (λ (k : StoreView D). k.session.accepted) same))
  broken_call old new (Settled answer) fell made =
      keeps_same old new (made.0.idle.untouched ((settling_ends old.store.session new.store.session answer made.0.step).2 fell)) made.1
  broken_call old new (Grouped group) fell made =
      record { store = subst (λ (k : StoreView D). k ≡ grouped k.session.group old.store) (sym made.0) refl; texts = made.1 }

  pub broken_calls : (old new : Trace D) (calls : List Call) → old.store.session.broken ≡ true → AllMade old calls new → Keeps old new
  broken_calls old new [] fell run = keeps_same old new (ap (λ (p : Trace D). p.store) run) (ap (λ (p : Trace D). p.texts) run)
  broken_calls old new (call ∷ calls) fell run =
      let first = broken_call old run.0 call fell run.1 in
      let rest = broken_calls run.0 new calls (kept_broken old run.0 first ∙ fell) run.2 in
      record { store = rest.store ∙ ap (grouped new.store.session.group) first.store; texts = rest.texts ∙ first.texts }

  -- What the disk is after the calls.

  rest_call : (old new : Trace D) (call : Call) → new.store.session.broken ≡ false → IsAtRest (g.files old.store.disk) → Made old call new → IsAtRest (g.files new.store.disk)
  rest_call old new (Ran command answer) sound rest made =
      made.0.disk.rest
      (λ failed. false≢true (sym sound ∙ falls old.store.session new.store.session command (subst (λ a. Step old.store.session command a new.store.session) failed made.0.step)))
      rest
  rest_call old new (Settled answer) sound rest made = made.0.disk.rest ((settling_ends old.store.session new.store.session answer made.0.step).1 sound).0 rest
  rest_call old new (Grouped group) sound rest made = subst (λ (k : StoreView D). IsAtRest (g.files k.disk)) (sym made.0) rest

  fit_call : (old new : Trace D) (call : Call) → IsAtRest (g.files old.store.disk) → Made old call new → IsRecoverable (g.files new.store.disk)
  fit_call old new (Ran command answer) rest made = made.0.disk.recoverable rest
  fit_call old new (Settled answer) rest made = made.0.disk.recoverable rest
  fit_call old new (Grouped group) rest made = subst (λ (k : StoreView D). IsRecoverable (g.files k.disk)) (sym made.0) (inl (λ name not. rest.stable name))

  same_disk : (old new : Trace D) → Keeps old new → new.store.disk ≡ old.store.disk
  same_disk old new keeps = ap (λ (k : StoreView D). k.disk) keeps.store

  pub calls_recoverable : (old new : Trace D) (calls : List Call) → IsAtRest (g.files old.store.disk) → AllMade old calls new → IsRecoverable (g.files new.store.disk)
  calls_recoverable old new [] rest run = subst (λ (p : Trace D). IsRecoverable (g.files p.store.disk)) (sym run) (inl (λ name not. rest.stable name))
  calls_recoverable old new (call ∷ calls) rest run = ⊎_elim
      (λ fell. subst (λ d. IsRecoverable (g.files d)) (sym (same_disk run.0 new (broken_calls run.0 new calls fell run.2))) (fit_call old run.0 call rest run.1))
      (λ sound. calls_recoverable run.0 new calls (rest_call old run.0 call sound rest run.1) run.2)
      (cases_Bool run.0.store.session.broken)

  pub calls_rest : (old new : Trace D) (calls : List Call) → new.store.session.broken ≡ false → IsAtRest (g.files old.store.disk) → AllMade old calls new → IsAtRest (g.files new.store.disk)
  calls_rest old new [] sound rest run = subst (λ (p : Trace D). IsAtRest (g.files p.store.disk)) (sym run) rest
  calls_rest old new (call ∷ calls) sound rest run = ⊎_elim
      (λ fell. absurd (false≢true (sym sound ∙ kept_broken run.0 new (broken_calls run.0 new calls fell run.2) ∙ fell)))
      (λ still. calls_rest run.0 new calls sound (rest_call old run.0 call still rest run.1) run.2)
      (cases_Bool run.0.store.session.broken)

  -- the group is set, and a run after it
  course_group : (old new : StoreView D) (group : Group) (P Later : Session → Type 0) → old.session.broken ≡ false → Goes (grouped group old) new Later → ((s : Session) → Later s → P s) → Goes old new P
  course_group old new group P Later sound course later = record {
    passes = λ rest disk ok. passes_as (course.passes rest disk ok) (λ image left. ⊎_elim
        (λ held. inl held)
        (λ reached. inr (reached.0, (reached.1.0, record { no_fewer = reached.1.1.no_fewer; no_more = reached.1.1.no_more }, later reached.0 reached.1.2), reached.2))
        left);
    rest = course.rest;
    recoverable = course.recoverable;
    others = course.others;
    onward = λ ok. let on = course.onward ok in record { names = on.names; broken = on.broken; settled = on.settled; texts = on.texts };
    stays = λ fell. absurd (false≢true (sym sound ∙ fell));
    rises = course.rises;
  }

  -- A run of calls as far as a call at which the disk failed; after it the disk stays.
  pub record CourseTo (old new : Trace D) : Type 0 where
    pub last : StoreView D
    pub course : Goes old.store last (Counts new old)
    pub disk : new.store.disk ≡ last.disk
    pub accepted : new.store.session.accepted ≡ last.session.accepted

  -- one call, and a run after it
  module _ (old mid new : Trace D) (lists : Lists old.store.session old.texts) (ends : Begin mid.texts new.texts) (sound : old.store.session.broken ≡ false) (to : CourseTo mid new) where
    course_call : (call : Call) → Made old call mid → CourseTo old new
    course_call (Ran command answer) made = record {
      last = to.last;
      course = course_run g old.store mid.store to.last command answer (Counts new old) (Counts new mid) made.0 to.course (inl refl)
          (λ fine s later.
          further old mid new (call_lists old mid (Ran command answer) made lists) ends (same_or_sound old.store.session mid.store.session command answer fine made.0.step) s later)
          (inl refl)
          (λ texts failed accepted full.
          let fell = falls old.store.session mid.store.session command (subst (λ a. Step old.store.session command a mid.store.session) failed made.0.step) in
          torn old mid new command texts lists ends (to.accepted ∙ ap (λ (k : StoreView D). k.session.accepted) (to.course.stays fell)) made.1 accepted);
      disk = to.disk;
      accepted = to.accepted;
    }
    course_call (Settled answer) made =
        let n = old.store.session.accepted in
        record {
          last = to.last;
          course = course_run g old.store mid.store to.last Settle (reply_of n answer) (Counts new old) (Counts new mid) (settling_runs old.store mid.store answer made.0) to.course (inl refl)
              (λ fine s later.
              further old mid new (call_lists old mid (Settled answer) made lists) ends
              (same_or_sound old.store.session mid.store.session Settle (reply_of n answer) fine (settle_steps old.store.session mid.store.session answer made.0.step)) s later)
              (inl refl)
              (λ texts failed accepted full. no_settling texts accepted);
          disk = to.disk;
          accepted = to.accepted;
        }
    course_call (Grouped group) made = record {
      last = to.last;
      course = course_group old.store to.last group (Counts new old) (Counts new mid) sound (subst (λ (k : StoreView D). Goes k to.last (Counts new mid)) made.0 to.course)
          (λ s later. further old mid new (call_lists old mid (Grouped group) made lists) ends (inr (ap (λ (k : StoreView D). k.session.broken) made.0 ∙ sound)) s later);
      disk = to.disk;
      accepted = to.accepted;
    }

  course_to : (old new : Trace D) (calls : List Call) → Lists old.store.session old.texts → AllMade old calls new → CourseTo old new
  course_to old new [] lists run = record {
    last = old.store;
    course = course_none g old.store (Counts new old) (inl refl);
    disk = ap (λ (p : Trace D). p.store.disk) run;
    accepted = ap (λ (p : Trace D). p.store.session.accepted) run;
  }
  course_to old new (call ∷ calls) lists run = ⊎_elim
      (λ fell.
      let keeps = broken_calls old new (call ∷ calls) fell run in
      record {
        last = old.store;
        course = course_none g old.store (Counts new old) (inl refl);
        disk = same_disk old new keeps;
        accepted = ap (λ (k : StoreView D). k.session.accepted) keeps.store;
      })
      (λ sound.
      course_call old run.0 new lists (begin_calls run.0 new calls run.2) sound
      (course_to run.0 new calls (call_lists old run.0 call run.1 lists) run.2) call run.1)
      (cases_Bool old.store.session.broken)

  -- What a crash leaves.
  module _ (first last : Trace D) (calls : List Call) (lists : Lists first.store.session first.texts) (run : AllMade first calls last) (sound : first.store.session.broken ≡ false) where
    abbrev others : Image
    others = contents (g.files first.store.disk)

    abbrev IsLeftOf : Image → Type 0
    IsLeftOf image = Holds first.store.session others first.store.session.settled image ⊎ HoldsPrefix first.store.session others last.texts first.store.session.accepted image

    stands : (s : Session) → Counts last first s → s.accepted ≤ last.store.session.accepted → slice_get last.texts s.accepted ≡ Some s.files
    stands s counts within = ⊎_elim
        (λ same.
        subst (λ (t : Session). slice_get last.texts t.accepted ≡ Some t.files) (sym same)
        (begin_calls first last calls run first.store.session.accepted first.store.session.files (lists.files sound)))
        (λ more. ⊎_elim (λ is. is) (λ past. absurd (omega (arith, past, within))) more)
        counts

    pub calls_leave : ((image : Image) → g.left_since first.store.disk (g.instant first.store.disk) image → AreImages (g.files first.store.disk) image) → IsAtRest (g.files first.store.disk)
        → IsOnDisk first.store.session others → LeavesOnly (g.instant first.store.disk) (g.instant last.store.disk) (g.left_since first.store.disk) (g.left_since last.store.disk) IsLeftOf
    calls_leave start rest disk =
        let to = course_to first last calls lists run in
        subst (λ d. LeavesOnly (g.instant first.store.disk) (g.instant d) (g.left_since first.store.disk) (g.left_since d) IsLeftOf) (sym to.disk)
        (leaves_as (course_leaves g first.store to.last (Counts last first) to.course rest disk sound start) (λ image left. ⊎_elim
        (λ held. inl held)
        (λ reached. inr (reached.0.accepted, reached.1.1.no_fewer, rw (stands reached.0 reached.1.0 (omega (arith, reached.1.1.no_more, to.accepted))) reached.2))
        left))
