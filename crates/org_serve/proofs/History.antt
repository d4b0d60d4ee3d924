-- What a crash leaves of a run that is reported in one list of texts.
use Rattle.std.proofs.Common.{◌≡◌, ◌⊎◌, inl, inr, ⊎_elim, ℕ, ◌≤◌, false, List, [], ◌∷◌, Option, Some, None, Result, Ok, Err, refl, sym, ap, ◌∙◌, subst, arith}
use Rattle.std.proofs.lemmas.Grind.{common_steps}
use Rattle.org_disk.specs.declared.disk.Disk.{Ghosts}
use Rattle.std.specs.Prelude.{slice_get, IsSomeAnd}
use Rattle.std.proofs.lemmas.Option.{slice_get_within}
use Rattle.org_disk.specs.Disk.{AreImages, LeavesOnly}
use Rattle.org_disk.proofs.Moments.{passes_as, leaves_only}
use Rattle.org_journal.specs.Recovered.{Image, contents}
use Rattle.org_fileset.specs.Replay.{IsAtRest}
use Rattle.org_fileset.proofs.Commits.{at_rest_recovers}
use Rattle.org_fileset.proofs.Recovers.{recovers_as}
use Rattle.org_commands.specs.declared.command.Command.{Command}
use Rattle.org_commands.specs.declared.command.Command.TheVariants.{Settle}
use Rattle.org_commands.specs.declared.tally.Group.{Group}
use Rattle.org_commands.specs.declared.tally.Group.TheVariants.{Of, Whole}
use Rattle.org_commands.specs.InOrder.{with_texts}
use Rattle.org_commands.specs.Session.{Session, StoreView, Holds}
use Rattle.org_commands.specs.Outcome.{outcome}
use Rattle.org_commands.specs.Step.{Step}
use Rattle.org_store.specs.History.{Trace, Lists, HoldsPrefix}
use Rattle.org_store.specs.Runs.{IsOnDisk}
use Rattle.org_store.proofs.History.{Begin, Counts, Stands, Texts, adds, begin_adds, further, lists_step, same_or_sound, texts_after, torn}
use Rattle.org_store.proofs.Calls.{reply_of, settle_steps, settling_runs}
use Rattle.org_store.proofs.Runs.{Course, HaveTexts, IsBetween, course_none, course_run, falls, holds_back, no_settling, on_disk_after}
use Rattle.org_store.specs.Calls.{Call, Machine, StepsBy, model}
use Rattle.org_store.specs.Calls.Call.{Grouped, Ran, Settled}
use Rattle.org_serve.specs.Pipes.{Exchange}
use Rattle.org_serve.specs.Serving.{Answers, AnswersRead, HasSettled, MayHaveSettled, RunsLines, RunsAndWrites, stores_while_honest, traces_while_honest}
use Rattle.org_fault.specs.declared.fault.Fault.{Fault}
use Rattle.org_serve.specs.declared.fault.BadLine.{BadLine}
use Rattle.org_serve.specs.declared.end.ServeEnd.{ServeEnd}
use Rattle.org_serve.specs.History.{HoldsSince, Reaches}
use Rattle.org_serve.proofs.Honest.{sound_traced, sound_traces}
use Rattle.org_serve.proofs.Crashes.{lines_by}

-- A run of stores has a trace.
module _ {D : Type 0} (g : Ghosts D) where
  lift_read : (old : Trace D) (read : Result Command (Fault BadLine)) (out : List ℕ) (new : StoreView D) → AnswersRead (stores_while_honest g) old.store read out new
      → (texts : Texts) × AnswersRead (traces_while_honest g) old read out (record { store = new; texts = texts })
  lift_read old (Err fault) out new ran = (old.texts, (ran.0, ap (λ (k : StoreView D). record { store = k; texts = old.texts }) ran.1))
  lift_read old (Ok command) out new ran = (
    texts_after (outcome old.store.session command) old.store.session.accepted new.session.accepted old.texts,
    (
      ran.0,
      record { before = ran.1.before; did = λ here. let did = ran.1.did here in (did, adds old.store.session new.session command ran.0 old.texts did.step) },
      ran.2,
    ),
  )

  lift_lines : (old : Trace D) (lines : List (List ℕ)) (out : List ℕ) (new : StoreView D) → Answers (stores_while_honest g) old.store lines out new
      → (texts : Texts) × Answers (traces_while_honest g) old lines out (record { store = new; texts = texts })
  lift_lines old [] out new a = (old.texts, (a.0, ap (λ (k : StoreView D). record { store = k; texts = old.texts }) a.1))
  lift_lines old (line ∷ lines) out new a =
      let one = lift_read old a.3.0 a.1 a.0 a.3.2 in
      let mid : Trace D = record { store = a.0; texts = one.0 } in
      let rest = lift_lines mid lines a.2 new a.5 in
      (rest.0, (mid, a.1, a.2, (a.3.0, a.3.1, one.1), a.4, rest.1))

  lift_end : (mid : Trace D) (new : StoreView D) → (new ≡ mid.store) ⊎ HasSettled (stores_while_honest g) mid.store new
      → let last : Trace D = record { store = new; texts = mid.texts } in (last ≡ mid) ⊎ HasSettled (traces_while_honest g) mid last
  lift_end mid new ends = grind (arith, common_steps)

  lift_settled : (group : Group) (mid : Trace D) (new : StoreView D) → MayHaveSettled group (stores_while_honest g) mid.store new
      → MayHaveSettled group (traces_while_honest g) mid (record { store = new; texts = mid.texts })
  lift_settled (Of size) mid new settled = lift_end mid new settled
  lift_settled Whole mid new same = ap (λ (k : StoreView D). record { store = k; texts = mid.texts }) same

  -- the whole run
  pub lift_run : (first : Trace D) {after : StoreView D} {end : ServeEnd} {io : Exchange} → RunsLines (stores_while_honest g) first.store after end io
      → (texts : Texts) × RunsLines (traces_while_honest g) first (record { store = after; texts = texts }) end io
  lift_run first {after} run =
      let lines = lift_lines first run.ran run.out run.mid run.answered in
      let mid : Trace D = record { store = run.mid; texts = lines.0 } in (
        lines.0,
        record {
          input = run.input;
          ran = run.ran;
          others = run.others;
          out = run.out;
          mid = mid;
          read = run.read;
          lines = run.lines;
          answered = lines.1;
          ends = lift_end mid after run.ends;
          wrote = run.wrote;
        },
      )

  -- .. of which what was written and settled is the same
  pub lift_wrote : (first : Trace D) {after : StoreView D} {end : ServeEnd} {io : Exchange} → (run : RunsAndWrites (stores_while_honest g) first.store after end io)
      → RunsAndWrites (traces_while_honest g) first (record { store = after; texts = (lift_run first run.0).0 }) end io
  unfolding lift_run
  lift_wrote first {after} run = (
    (lift_run first run.0).1,
    run.1,
    lift_settled first.store.session.group (record { store = run.0.mid; texts = (lift_lines first run.0.ran run.0.out run.0.mid run.0.answered).0 }) after run.2,
  )

-- A run over a disk that is honest after each step.
module _ {D : Type 0} (g : Ghosts D) where
  abbrev Sound : Machine (Trace D)
  Sound = sound_traces g

  -- what is said of the sessions alone
  traced_calls : (old : Trace D) (call : Call) (new : Trace D) → Sound.makes old call new → StepsBy old.store.session call new.store.session
  traced_calls old (Ran command answer) new made = made.0.0.step
  traced_calls old (Settled answer) new made = made.0.0.step
  traced_calls old (Grouped group) new made = ap (λ (store : StoreView D). store.session) made.0.0

  pub session_of_traced : (old : Trace D) (lines : List (List ℕ)) (out : List ℕ) (new : Trace D) → Answers Sound old lines out new → Answers model old.store.session lines out new.store.session
  session_of_traced old lines out new a = lines_by Sound model (λ (trace : Trace D). trace.store.session) (λ trace. refl) traced_calls old lines out new a

  -- What holds of each store of a run.

  pub honest_lines : (old new : Trace D) (lines : List (List ℕ)) (out : List ℕ) → Answers Sound old lines out new → g.honest old.store.disk → g.honest new.store.disk
  honest_lines old new [] out a here = subst (λ (p : Trace D). g.honest p.store.disk) (sym a.1) here
  honest_lines old new (line ∷ lines) out a here = honest_lines a.0 new lines a.2 a.5 (honest_read old a.3.0 a.1 a.0 a.3.2 here)
    where
      honest_read : (old : Trace D) (read : Result Command (Fault BadLine)) (out : List ℕ) (new : Trace D) → AnswersRead Sound old read out new → g.honest old.store.disk → g.honest new.store.disk
      honest_read old (Err fault) out new ran here = subst (λ (p : Trace D). g.honest p.store.disk) (sym ran.1) here
      honest_read old (Ok command) out new ran here = ran.1.1

  lists_read : (old : Trace D) (read : Result Command (Fault BadLine)) (out : List ℕ) (new : Trace D) → AnswersRead Sound old read out new → Lists old.store.session old.texts → Lists new.store.session new.texts
  lists_read old (Err fault) out new ran lists = subst (λ (p : Trace D). Lists p.store.session p.texts) (sym ran.1) lists
  lists_read old (Ok command) out new ran lists = lists_step old.store.session new.store.session command ran.0 old.texts new.texts ran.1.0.0.step ran.1.0.1 lists

  pub lists_lines : (old new : Trace D) (lines : List (List ℕ)) (out : List ℕ) → Answers Sound old lines out new → Lists old.store.session old.texts → Lists new.store.session new.texts
  lists_lines old new [] out a lists = subst (λ (p : Trace D). Lists p.store.session p.texts) (sym a.1) lists
  lists_lines old new (line ∷ lines) out a here = lists_lines a.0 new lines a.2 a.5 (lists_read old a.3.0 a.1 a.0 a.3.2 here)

  pub lists_end : (mid last : Trace D) → (last ≡ mid) ⊎ HasSettled Sound mid last → Lists mid.store.session mid.texts → Lists last.store.session last.texts
  lists_end mid last ends lists = grind (arith, common_steps)

  begin_read : (old : Trace D) (read : Result Command (Fault BadLine)) (out : List ℕ) (new : Trace D) → AnswersRead Sound old read out new → Begin old.texts new.texts
  begin_read old (Err fault) out new ran = subst (λ (p : Trace D). Begin old.texts p.texts) (sym ran.1) (λ k files is. is)
  begin_read old (Ok command) out new ran = begin_adds (outcome old.store.session command) old.store.session.accepted new.store.session.accepted old.texts new.texts ran.1.0.1

  pub begin_lines : (old new : Trace D) (lines : List (List ℕ)) (out : List ℕ) → Answers Sound old lines out new → Begin old.texts new.texts
  begin_lines old new [] out a = subst (λ (p : Trace D). Begin old.texts p.texts) (sym a.1) (λ k files is. is)
  begin_lines old new (line ∷ lines) out a = λ k files is. begin_lines a.0 new lines a.2 a.5 k files (begin_read old a.3.0 a.1 a.0 a.3.2 k files is)

  pub begin_end : (mid last : Trace D) → (last ≡ mid) ⊎ HasSettled Sound mid last → Begin mid.texts last.texts
  begin_end mid last ends = grind (arith, common_steps)

  -- What is reached by lines.

  abbrev Goes : Trace D → Trace D → (Session → Type 0) → Type 0
  Goes old new P = Course g old.store new.store P

  -- one line, and the lines after it
  module _ (old mid last : Trace D) (course : Goes mid last (Counts last mid)) (lists : Lists old.store.session old.texts) (ends : Begin mid.texts last.texts) where
    course_read : (read : Result Command (Fault BadLine)) (out : List ℕ) → AnswersRead Sound old read out mid → Goes old last (Counts last old)
    course_read (Err fault) out ran = subst (λ p. Goes p last (Counts last p)) ran.1 course
    course_read (Ok command) out ran =
        let made = ran.1.0 in
        course_run g old.store mid.store last.store command ran.0 (Counts last old) (Counts last mid) made.0 course (inl refl)
        (λ fine s later.
        further old mid last (lists_step old.store.session mid.store.session command ran.0 old.texts mid.texts made.0.step made.1 lists) ends
        (same_or_sound old.store.session mid.store.session command ran.0 fine made.0.step) s later)
        (inl refl)
        (λ texts failed accepted full.
        let fell = falls old.store.session mid.store.session command (subst (λ a. Step old.store.session command a mid.store.session) failed made.0.step) in
        torn old mid last command texts lists ends (ap (λ (k : StoreView D). k.session.accepted) (course.stays fell)) made.1 accepted)

  pub course_past : (old mid last : Trace D) (lines : List (List ℕ)) (out : List ℕ) → Answers Sound old lines out mid → Goes mid last (Counts last mid) → Begin mid.texts last.texts
      → Lists old.store.session old.texts → Goes old last (Counts last old)
  course_past old mid last [] out a course ends lists = subst (λ p. Goes p last (Counts last p)) a.1 course
  course_past old mid last (line ∷ lines) out a course ends lists =
      course_read old a.0 last
      (course_past a.0 mid last lines a.2 a.5 course ends (lists_read old a.3.0 a.1 a.0 a.3.2 lists)) lists
      (λ k files is. ends k files (begin_lines a.0 mid lines a.2 a.5 k files is)) a.3.0 a.1 a.3.2

  pub course_last : (mid last : Trace D) → Lists mid.store.session mid.texts → (last ≡ mid) ⊎ HasSettled Sound mid last → Goes mid last (Counts last mid)
  course_last mid last lists ends = ⊎_elim
      (λ same. subst (λ (k : Trace D). Goes mid k (Counts k mid)) (sym same) (course_none g mid.store (Counts mid mid) (inl refl)))
      (λ settled.
      let made = settled.1.0.0 in
      let n = mid.store.session.accepted in
      course_run g mid.store last.store last.store Settle (reply_of n settled.0) (Counts last mid) (Counts last last) (settling_runs g mid.store last.store settled.0 made)
      (course_none g last.store (Counts last last) (inl refl)) (inl refl)
      (λ fine s later.
      further mid last last (lists_end mid last (inr settled) lists) (λ k files is. is)
      (same_or_sound mid.store.session last.store.session Settle (reply_of n settled.0) fine (settle_steps mid.store.session last.store.session settled.0 made.step)) s later)
      (inl refl) (λ texts failed accepted full. no_settling texts accepted))
      ends

  -- What a crash leaves since a store of a run that wasn't broken.
  pub leaves_since : (only_now : (disk : D) (image : Image) → g.honest disk → g.left_since disk (g.instant disk) image → AreImages (g.files disk) image)
      → (first here last : Trace D) → g.honest here.store.disk → IsAtRest (g.files first.store.disk) → IsOnDisk first.store.session (contents (g.files first.store.disk)) → here.store.session.broken ≡ false
      → Lists here.store.session here.texts → Lists last.store.session last.texts → Begin here.texts last.texts → (P : Session → Type 0) → Goes first here P → Goes here last (Counts last here)
      → LeavesOnly (g.instant here.store.disk) (g.instant last.store.disk) (g.left_since here.store.disk) (g.left_since last.store.disk)
      (HoldsSince first.store.session (contents (g.files first.store.disk)) here last)
  leaves_since only_now first here last honestly rest disk sound lists listed ends P before behind =
      let rest_here = before.rest sound rest in
      let made = before.others sound disk in
      let disk_here = on_disk_after here.store.session.names here.store.session.settled (contents (g.files first.store.disk)) (contents (g.files here.store.disk)) made in
      let back : (texts : List (List ℕ)) (image : Image) → (texts ≡ here.store.session.settled) ⊎ HaveTexts here.store.session.names here.store.session.files texts
      → Holds here.store.session (contents (g.files here.store.disk)) texts image → Holds first.store.session (contents (g.files first.store.disk)) texts image =
      λ texts image which held.
      holds_back first.store.session here.store.session (contents (g.files first.store.disk)) (contents (g.files here.store.disk)) image (before.onward sound) disk made texts which held in
      let settled_holds : (image : Image) → Holds here.store.session (contents (g.files here.store.disk)) here.store.session.settled image
      → HoldsSince first.store.session (contents (g.files first.store.disk)) here last image =
      λ image held.
      let stood = ends here.store.session.acknowledged here.store.session.settled (lists.settled sound) in
      record {
        count = here.store.session.acknowledged;
        least = omega (arith);
        whole = inl refl;
        accepted = omega (arith, slice_get_within last.texts here.store.session.acknowledged here.store.session.settled stood, listed.size);
        holds = rw stood (back here.store.session.settled image (inl refl) held);
      } in
      let stands : (s : Session) → IsBetween here.store.session last.store.session s → Counts last here s → Stands last s =
      λ s between counts. ⊎_elim
      (λ same. subst (Stands last) (sym same) (ends here.store.session.accepted here.store.session.files (lists.files sound)))
      (λ more. ⊎_elim (λ is. is) (λ past. absurd (omega (arith, past, between.no_more))) more)
      counts in
      leaves_only
      (passes_as (behind.passes rest_here disk_here sound) (λ image left. ⊎_elim
      (settled_holds image)
      (λ reached.
      let stood = stands reached.0 reached.1.1 reached.1.2 in
      record {
        count = reached.0.accepted;
        least = omega (arith, lists.order, reached.1.1.no_fewer);
        whole = inr reached.1.1.no_fewer;
        accepted = omega (arith, slice_get_within last.texts reached.0.accepted reached.0.files stood, listed.size);
        holds = rw stood (back reached.0.files image (inr reached.1.0) reached.2);
      })
      left))
      (λ image left. settled_holds image (recovers_as (contents (g.files here.store.disk)) (with_texts here.store.session.names here.store.session.settled (contents (g.files here.store.disk))) image disk_here
      (at_rest_recovers (g.files here.store.disk) rest_here image (only_now here.store.disk image honestly left))))

  -- What a crash leaves since each intermediate store of a run, and at its end.
  module _ (only_now : (disk : D) (image : Image) → g.honest disk → g.left_since disk (g.instant disk) image → AreImages (g.files disk) image)
      {first last : Trace D} {end : ServeEnd} {io : Exchange} (run : RunsLines Sound first last end io)
      (honest_first : g.honest first.store.disk) (honest_last : g.honest last.store.disk) (rest : IsAtRest (g.files first.store.disk)) (disk : IsOnDisk first.store.session (contents (g.files first.store.disk)))
      (lists : Lists first.store.session first.texts) where
    course_to_last : Goes first last (Counts last first)
    course_to_last = course_past first run.mid last run.ran run.out run.answered (course_last run.mid last (lists_lines first run.mid run.ran run.out run.answered lists) run.ends) (begin_end run.mid last run.ends) lists

    pub lists_last : Lists last.store.session last.texts
    lists_last = lists_end run.mid last run.ends (lists_lines first run.mid run.ran run.out run.answered lists)

    pub since : (here : Trace D) → Reaches Sound first run.ran run.out run.mid here ⊎ (here ≡ last) → here.store.session.broken ≡ false
        → LeavesOnly (g.instant here.store.disk) (g.instant last.store.disk) (g.left_since here.store.disk) (g.left_since last.store.disk)
        (HoldsSince first.store.session (contents (g.files first.store.disk)) here last)
    since here (inl reaches) sound =
        leaves_since only_now first here last (honest_lines first here reaches.answered reaches.written reaches.before honest_first) rest disk sound
        (lists_lines first here reaches.answered reaches.written reaches.before lists) lists_last
        (λ k texts is. begin_end run.mid last run.ends k texts (begin_lines here run.mid reaches.others reaches.more reaches.behind k texts is))
        (Counts here first)
        (course_past first here here reaches.answered reaches.written reaches.before (course_none g here.store (Counts here here) (inl refl)) (λ k texts is. is) lists)
        (course_past here run.mid last reaches.others reaches.more reaches.behind (course_last run.mid last (lists_lines first run.mid run.ran run.out run.answered lists) run.ends) (begin_end run.mid last run.ends)
        (lists_lines first here reaches.answered reaches.written reaches.before lists))
    since here (inr same) sound =
        subst (λ (h : Trace D). LeavesOnly (g.instant h.store.disk) (g.instant last.store.disk) (g.left_since h.store.disk) (g.left_since last.store.disk)
        (HoldsSince first.store.session (contents (g.files first.store.disk)) h last)) (sym same)
        (leaves_since only_now first last last honest_last rest disk (ap (λ (h : Trace D). h.store.session.broken) (sym same) ∙ sound) lists_last lists_last (λ k texts is. is) (Counts last first) course_to_last
        (course_none g last.store (Counts last last) (inl refl)))

    -- a prefix that has all commands
    pub whole_prefix : (image : Image) → last.store.session.broken ≡ false → last.store.session.accepted ≤ last.store.session.acknowledged
        → HoldsSince first.store.session (contents (g.files first.store.disk)) last last image
        → Holds first.store.session (contents (g.files first.store.disk)) last.store.session.files image
    whole_prefix image sound all holds = some (slice_get last.texts holds.count) refl holds.holds
      where
        the_same : (one other : List (List ℕ)) → Some one ≡ Some other → one ≡ other
        the_same one other same = cc

        some : (found : Option (List (List ℕ))) → slice_get last.texts holds.count ≡ found → IsSomeAnd found (λ texts. Holds first.store.session (contents (g.files first.store.disk)) texts image)
            → Holds first.store.session (contents (g.files first.store.disk)) last.store.session.files image
        some None is held = absurd held
        some (Some texts) is held =
            let at : holds.count ≡ last.store.session.accepted = elim holds.whole [ inl settled ↦ omega (arith, settled, holds.accepted, all) | inr more ↦ omega (arith, more, holds.accepted) ] in
            let same : Some texts ≡ Some last.store.session.files = sym is ∙ (ap (slice_get last.texts) at ∙ lists_last.files sound) in
            subst (λ t. Holds first.store.session (contents (g.files first.store.disk)) t image) (the_same texts last.store.session.files same) held

-- no line was answered yet
pub at_first : {S : Type 0} {m : Machine S} (first new : S) (lines : List (List ℕ)) (out : List ℕ) → Answers m first lines out new → Reaches m first lines out new first
at_first first new lines out answered = grind (arith, common_steps)

-- What a crash leaves of a run of a store that has such a list as it begins.
pub run_leaves : {D : Type 0} (g : Ghosts D)
    → ((disk : D) (image : Image) → g.honest disk → g.left_since disk (g.instant disk) image → AreImages (g.files disk) image)
    → (first : Trace D) (new : StoreView D) (end : ServeEnd) (io : Exchange) → g.honest new.disk → IsAtRest (g.files first.store.disk)
    → IsOnDisk first.store.session (contents (g.files first.store.disk)) → first.store.session.broken ≡ false → Lists first.store.session first.texts
    → RunsLines (stores_while_honest g) first.store new end io
    → (last : Trace D) × (last.store ≡ new) × Lists last.store.session last.texts
    × RunsLines (traces_while_honest g) first last end io
    × LeavesOnly (g.instant first.store.disk) (g.instant last.store.disk) (g.left_since first.store.disk) (g.left_since last.store.disk)
    (HoldsSince first.store.session (contents (g.files first.store.disk)) first last)
run_leaves g only_now first new end io honestly rest disk sound lists run =
    let lifted = lift_run g first run in
    let last : Trace _ = record { store = new; texts = lifted.0 } in
    let reported = sound_traced g lifted.1 honestly in (
      last,
      refl,
      lists_last g only_now reported.0 reported.1 honestly rest disk lists,
      lifted.1,
      since g only_now reported.0 reported.1 honestly rest disk lists first (inl (at_first first reported.0.mid reported.0.ran reported.0.out reported.0.answered)) sound,
    )

-- .. which is a prefix with at least the commands that were acknowledged
pub since_prefix : {D : Type 0} (first : Session) (others image : Image) (here later : Trace D)
    → HoldsSince first others here later image → HoldsPrefix first others later.texts here.store.session.acknowledged image
since_prefix first others image here later holds = (holds.count, holds.least, holds.holds)
