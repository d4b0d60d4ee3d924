-- What a crash leaves of a run whose commands are to be done whole: what `settle` put on the disk, and
-- nothing else.
use Rattle.std.proofs.Common.{◌≡◌, ◌⊎◌, inl, inr, ⊎_elim, ℕ, ◌≤◌, false, List, [], ◌∷◌, ◌++◌, Some, Result, Ok, Err, refl, sym, ap, ◌∙◌, subst, append_assoc, arith}
use Rattle.std.specs.Prelude.{slice_get}
use Rattle.std.proofs.lemmas.Bool.{cases_Bool}
use Rattle.std.proofs.lemmas.Option.{slice_get_within}
use Rattle.org_disk.specs.declared.disk.Disk.{Ghosts}
use Rattle.org_disk.specs.Disk.{AreImages, Passes, LeavesOnly}
use Rattle.org_disk.proofs.Moments.{passes_none, passes_as, passes_then, leaves_only}
use Rattle.org_journal.specs.Recovered.{Image, contents}
use Rattle.org_fileset.specs.Replay.{IsAtRest}
use Rattle.org_fileset.proofs.Commits.{at_rest_recovers}
use Rattle.org_fileset.proofs.Recovers.{recovers_as}
use Rattle.org_commands.specs.declared.command.Command.{Command}
use Rattle.org_commands.specs.declared.command.Command.TheVariants.{Settle}
use Rattle.org_commands.specs.declared.command.Reply.{Reply}
use Rattle.org_commands.specs.declared.command.RunFault.{RunFault}
use Rattle.org_commands.specs.declared.tally.Group.{Group}
use Rattle.org_commands.specs.declared.tally.Group.TheVariants.{Of, Whole}
use Rattle.org_commands.specs.InOrder.{with_texts}
use Rattle.org_commands.specs.Outcome.{AsksToSettle, outcome}
use Rattle.org_store.specs.Runs.{IsOnDisk}
use Rattle.org_commands.specs.Session.{StoreView, Holds}
use Rattle.org_store.specs.Calls.{Machine, Traces}
use Rattle.org_store.specs.Calls.Call.{Ran}
use Rattle.org_store.specs.History.{Trace, Lists}
use Rattle.org_store.proofs.Follows.{step_setting}
use Rattle.org_store.proofs.History.{Counts, lists_step}
use Rattle.org_store.proofs.Runs.{Course, HaveTexts, course_none, holds_back, on_disk_after}
use Rattle.org_serve.specs.declared.end.ServeEnd.{ServeEnd}
use Rattle.org_fault.specs.declared.fault.Fault.{Fault}
use Rattle.org_serve.specs.declared.fault.BadLine.{BadLine}
use Rattle.org_serve.specs.Grammar.{command_of}
use Rattle.org_serve.specs.History.{HoldsSettled, SettlesAt}
use Rattle.org_serve.specs.Pipes.{Exchange}
use Rattle.org_serve.specs.Serving.{Answers, AnswersLine, AnswersRead, IsReadAs, MayHaveSettled, RunsAndWrites, RunsLines, stores_while_honest, traces_while_honest}
use Rattle.org_store.proofs.Asking.{acknowledges, asks_settle, puts_settled}
use Rattle.org_serve.proofs.History.{begin_lines, course_past, lift_run, lift_wrote, lists_last, lists_lines}
use Rattle.org_serve.proofs.Honest.{sound_lines, sound_traced, sound_traces}
use Rattle.org_serve.proofs.Joins.{Each-one}

-- Lines leave the group as it is.
module _ {D : Type 0} (g : Ghosts D) where
  group_read : (old : Trace D) (read : Result Command (Fault BadLine)) (out : List ℕ) (new : Trace D) → AnswersRead (sound_traces g) old read out new → new.store.session.group ≡ old.store.session.group
  group_read old (Err fault) out new ran = ap (λ (p : Trace D). p.store.session.group) ran.1
  group_read old (Ok command) out new ran = (step_setting old.store.session new.store.session command ran.0 ran.1.0.0.step).2

  pub group_lines : (old new : Trace D) (lines : List (List ℕ)) (out : List ℕ) → Answers (sound_traces g) old lines out new → new.store.session.group ≡ old.store.session.group
  group_lines old new [] out a = ap (λ (p : Trace D). p.store.session.group) a.1
  group_lines old new (line ∷ lines) out a = group_lines a.0 new lines a.2 a.5 ∙ group_read old a.3.0 a.1 a.0 a.3.2

-- These lines lead from `start` to `later` by these bytes. `first` is the state in which the run
-- began, and others led from it to `start`.
module _ {D : Type 0} (g : Ghosts D)
    (only_now : (disk : D) (image : Image) → g.honest disk → g.left_since disk (g.instant disk) image → AreImages (g.files disk) image)
    (first start later : Trace D) (lines : List (List ℕ)) (out : List ℕ) (honestly : g.honest later.store.disk)
    (rest : IsAtRest (g.files first.store.disk)) (disk : IsOnDisk first.store.session (contents (g.files first.store.disk))) (lists : Lists first.store.session first.texts) where
  abbrev Said : Machine (Trace D)
  Said = traces_while_honest g

  abbrev Sound : Machine (Trace D)
  Sound = sound_traces g

  abbrev Target : Image → Type 0
  Target image = HoldsSettled Said first.store.session (contents (g.files first.store.disk)) start lines out later image

  -- what a crash leaves between two stores
  abbrev Between : StoreView D → StoreView D → Type 0
  Between old new = Passes (g.instant old.disk) (g.instant new.disk) (g.left_since old.disk) (g.left_since new.disk) Target

  -- so many commands were acknowledged at `start`, or accepted after it as `settle` was run
  pub record IsSettledCount (count : ℕ) : Type 0 where
    pub settled : (count ≡ start.store.session.acknowledged) ⊎ ((mid : Trace D) × SettlesAt Said start lines out later mid × (count ≡ mid.store.session.accepted))
    pub least : start.store.session.acknowledged ≤ count

  -- A state between the two that isn't broken; `ahead` are the lines after it.
  pub record Stands (here : Trace D) (ahead : List (List ℕ)) (more : List ℕ) : Type 0 where
    pub answered : List (List ℕ)
    pub written : List ℕ
    pub all_lines : lines ≡ answered ++ ahead
    pub all_written : out ≡ written ++ more
    pub before : Answers Said start answered written here
    pub ran : List (List ℕ)
    pub replies : List ℕ
    pub from : Answers Sound first ran replies here
    pub sound : here.store.session.broken ≡ false
    pub group : here.store.session.group ≡ Whole
    pub count : IsSettledCount here.store.session.acknowledged

  module _ (here : Trace D) (ahead : List (List ℕ)) (more : List ℕ) (a : Answers Said here ahead more later) (stands : Stands here ahead more) where
    lists_here : Lists here.store.session here.texts
    lists_here = lists_lines g first here stands.ran stands.replies stands.from lists

    behind : Answers Sound here ahead more later × g.honest here.store.disk
    behind = sound_lines g here ahead more later a honestly

    lists_later : Lists later.store.session later.texts
    lists_later = lists_lines g here later ahead more behind.0 lists_here

    course : Course g first.store here.store (Counts here first)
    course = course_past g first here here stands.ran stands.replies stands.from (course_none g here.store (Counts here here) (inl refl)) (λ k texts is. is) lists

    rest_here : IsAtRest (g.files here.store.disk)
    rest_here = course.rest stands.sound rest

    -- what holds texts over the files of this state holds them over those of the first one
    back : (texts : List (List ℕ)) (image : Image) → (texts ≡ here.store.session.settled) ⊎ HaveTexts here.store.session.names here.store.session.files texts
        → Holds here.store.session (contents (g.files here.store.disk)) texts image → Holds first.store.session (contents (g.files first.store.disk)) texts image
    back texts image which held =
        holds_back first.store.session here.store.session (contents (g.files first.store.disk)) (contents (g.files here.store.disk)) image (course.onward stands.sound) disk (course.others stands.sound disk) texts which held

    target : (count : ℕ) (texts : List (List ℕ)) (image : Image) → IsSettledCount count → slice_get here.texts count ≡ Some texts
        → (texts ≡ here.store.session.settled) ⊎ HaveTexts here.store.session.names here.store.session.files texts
        → Holds here.store.session (contents (g.files here.store.disk)) texts image → Target image
    target count texts image is listed which held =
        let stood : slice_get later.texts count ≡ Some texts = begin_lines g here later ahead more behind.0 count texts listed in
        record {
          count = count;
          settled = is.settled;
          least = is.least;
          accepted = omega (arith, slice_get_within later.texts count texts stood, lists_later.size);
          holds = rw stood (back texts image which held);
        }

    -- the files after the commands that are acknowledged
    of_settled : (image : Image) → Holds here.store.session (contents (g.files here.store.disk)) here.store.session.settled image → Target image
    of_settled image held = target here.store.session.acknowledged here.store.session.settled image stands.count (lists_here.settled stands.sound) (inl refl) held

    -- what a crash leaves as the state is reached
    of_now : (image : Image) → g.left_since here.store.disk (g.instant here.store.disk) image → Target image
    of_now image left =
        let names = here.store.session.names in
        let settled = here.store.session.settled in
        let on_disk = on_disk_after names settled (contents (g.files first.store.disk)) (contents (g.files here.store.disk)) (course.others stands.sound disk) in
        of_settled image
        (recovers_as (contents (g.files here.store.disk)) (with_texts names settled (contents (g.files here.store.disk))) image on_disk
        (at_rest_recovers (g.files here.store.disk) rest_here image (only_now here.store.disk image behind.1 left)))

  -- where the next line is `settle`: all that is accepted is settled by it
  module _ (here : Trace D) (line : List ℕ) (ahead : List (List ℕ)) (more : List ℕ) (a : Answers Said here (line ∷ ahead) more later) (stands : Stands here (line ∷ ahead) more)
      (asks : command_of line ≡ Some Settle) where
    settles_here : SettlesAt Said start lines out later here
    settles_here = record {
      way = record {
        answered = stands.answered;
        others = line ∷ ahead;
        written = stands.written;
        more = more;
        all_lines = stands.all_lines;
        all_written = stands.all_written;
        before = stands.before;
        behind = a;
      };
      line = line;
      later = ahead;
      next = refl;
      asks = asks;
    }

    counts_here : (count : ℕ) → count ≡ here.store.session.accepted → IsSettledCount count
    counts_here count is = record {
      settled = inr (here, settles_here, is);
      least = omega (arith, is, (lists_here here (line ∷ ahead) more a stands).order, stands.count.least);
    }

    -- the files after all that is accepted
    of_files : (image : Image) → Holds here.store.session (contents (g.files here.store.disk)) here.store.session.files image → Target image
    of_files image held =
        target here (line ∷ ahead) more a stands here.store.session.accepted here.store.session.files image (counts_here here.store.session.accepted refl)
        ((lists_here here (line ∷ ahead) more a stands).files stands.sound) (inr (λ name. refl)) held

  -- One line, and what is after it.
  module _ (here : Trace D) (line : List ℕ) (ahead : List (List ℕ)) (more : List ℕ) (a : Answers Said here (line ∷ ahead) more later) (stands : Stands here (line ∷ ahead) more)
      (further : Stands a.0 ahead a.2 → Between a.0.store later.store) where
    honest_mid : g.honest a.0.store.disk
    honest_mid = (sound_lines g a.0 ahead a.2 later a.5 honestly).1

    next : AnswersLine Sound here line a.1 a.0 → a.0.store.session.broken ≡ false → a.0.store.session.group ≡ Whole → IsSettledCount a.0.store.session.acknowledged → Stands a.0 ahead a.2
    next one sound group count = record {
      answered = stands.answered ++ line ∷ [];
      written = stands.written ++ a.1;
      all_lines = stands.all_lines ∙ sym (append_assoc stands.answered (line ∷ []) ahead);
      all_written = stands.all_written ∙ ap (λ o. stands.written ++ o) a.4 ∙ sym (append_assoc stands.written a.1 a.2);
      before = Each-one (AnswersLine Said) start here a.0 stands.answered line stands.written a.1 stands.before a.3;
      ran = stands.ran ++ line ∷ [];
      replies = stands.replies ++ a.1;
      from = Each-one (AnswersLine Sound) first here a.0 stands.ran line stands.replies a.1 stands.from one;
      sound = sound;
      group = group;
      count = count;
    }

    -- a command is run
    module _ (command : Command) (answer : Result Reply RunFault) (reads : IsReadAs line (Ok command)) (made : Traces g here (Ran command answer) a.0) (one : AnswersLine Sound here line a.1 a.0) where
      is_settle : outcome here.store.session command ≡ AsksToSettle → command_of line ≡ Some Settle
      is_settle asks = reads.1 ∙ ap (λ (c : Command). Some c) (asks_settle here.store.session command asks)

      meanwhile : Between here.store a.0.store
      meanwhile =
          passes_as (made.0.disk.any_moment (rest_here here (line ∷ ahead) more a stands)).passes (λ image left. ⊎_elim
          (λ held. of_settled here (line ∷ ahead) more a stands image held)
          (λ put.
          let puts = puts_settled here.store.session (outcome here.store.session command) a.0.store.session.accepted put.1.0 stands.group put.1.1 in
          of_files here line ahead more a stands (is_settle puts.0) image
          (subst (λ texts. Holds here.store.session (contents (g.files here.store.disk)) texts image) puts.1 put.1.2))
          left)

      then_on : Between here.store later.store
      then_on = elim (cases_Bool a.0.store.session.broken) [
        | inl fell ↦
            let lists_mid = lists_step here.store.session a.0.store.session command answer here.texts a.0.texts made.0.step made.1 (lists_here here (line ∷ ahead) more a stands) in
            let behind_mid = (sound_lines g a.0 ahead a.2 later a.5 honestly).0 in
            let course_mid = course_past g a.0 later later ahead a.2 behind_mid (course_none g later.store (Counts later later) (inl refl)) (λ k texts is. is) lists_mid in
            subst (λ (k : StoreView D). Between here.store k) (sym (course_mid.stays fell)) meanwhile
        | inr sound ↦
            let group = (step_setting here.store.session a.0.store.session command answer made.0.step).2 ∙ stands.group in
            let count : IsSettledCount a.0.store.session.acknowledged = ⊎_elim
            (λ same. subst IsSettledCount (sym same) stands.count)
            (λ settled. counts_here here line ahead more a stands (is_settle settled.0) a.0.store.session.acknowledged settled.1)
            (acknowledges here.store.session a.0.store.session command answer stands.group made.0.step) in
            passes_then meanwhile (further (next one sound group count)) (λ image held. held)
      ]

    go : (read : Result Command (Fault BadLine)) → IsReadAs line read → AnswersRead Said here read a.1 a.0 → Between here.store later.store
    go (Err fault) reads ran =
        subst (λ (p : Trace D). Between p.store later.store) ran.1
        (further
        (next (Err fault, reads, (ran.0, ran.1)) (subst (λ (p : Trace D). p.store.session.broken ≡ false) (sym ran.1) stands.sound)
        (subst (λ (p : Trace D). p.store.session.group ≡ Whole) (sym ran.1) stands.group)
        (subst (λ (p : Trace D). IsSettledCount p.store.session.acknowledged) (sym ran.1) stands.count)))
    go (Ok command) reads ran =
        let made = ran.1.did honest_mid in
        then_on command ran.0 reads made (Ok command, reads, (ran.0, (made, honest_mid), ran.2))

  between : (here : Trace D) (ahead : List (List ℕ)) (more : List ℕ) → Answers Said here ahead more later → Stands here ahead more → Between here.store later.store
  between here [] more a stands = subst (λ (p : Trace D). Between here.store p.store) (sym a.1) (passes_none _ _ _)
  between here (line ∷ ahead) more a stands =
      go here line ahead more a stands (λ next. between a.0 ahead a.2 a.5 next) a.3.0 a.3.1 a.3.2

  -- since `start`
  pub whole_since : Answers Said start lines out later → (ran : List (List ℕ)) (replies : List ℕ) → Answers Sound first ran replies start → start.store.session.broken ≡ false → start.store.session.group ≡ Whole
      → LeavesOnly (g.instant start.store.disk) (g.instant later.store.disk) (g.left_since start.store.disk) (g.left_since later.store.disk) Target
  whole_since answers ran replies from sound group =
      let stands : Stands start lines out = record {
        answered = [];
        written = [];
        all_lines = refl;
        all_written = refl;
        before = (refl, refl);
        ran = ran;
        replies = replies;
        from = from;
        sound = sound;
        group = group;
        count = record { settled = inl refl; least = omega arith };
      } in
      leaves_only (between start lines out answers stands) (of_now start lines out answers stands)

-- What a crash leaves while lines are served.

none_settled : {S : Type 0} (m : Machine S) (group : Group) (mid new : S) → group ≡ Whole → MayHaveSettled group m mid new → new ≡ mid
none_settled m (Of size) mid new whole settled = absurd (cc)
none_settled m Whole mid new whole same = same

pub run_settles : {D : Type 0} (g : Ghosts D)
    → ((disk : D) (image : Image) → g.honest disk → g.left_since disk (g.instant disk) image → AreImages (g.files disk) image)
    → (first : Trace D) (new : StoreView D) (end : ServeEnd) (io : Exchange) → g.honest new.disk → IsAtRest (g.files first.store.disk)
    → IsOnDisk first.store.session (contents (g.files first.store.disk)) → first.store.session.broken ≡ false → Lists first.store.session first.texts → first.store.session.group ≡ Whole
    → RunsAndWrites (stores_while_honest g) first.store new end io
    → (last : Trace D) × (last.store ≡ new) × Lists last.store.session last.texts
    × (run : RunsLines (traces_while_honest g) first last end io)
    × LeavesOnly (g.instant first.store.disk) (g.instant last.store.disk) (g.left_since first.store.disk) (g.left_since last.store.disk)
    (HoldsSettled (traces_while_honest g) first.store.session (contents (g.files first.store.disk)) first run.ran run.out last)
run_settles g only_now first new end io honestly rest disk sound lists group run =
    let traced = lift_wrote g first run in
    let past = traced.0 in
    let last : Trace _ = record { store = new; texts = (lift_run g first run.0).0 } in
    let same : last ≡ past.mid = none_settled (traces_while_honest g) first.store.session.group past.mid last group traced.2 in
    let reported = sound_traced g past honestly in
    let settles = whole_since g only_now first first past.mid past.ran past.out (subst (λ (p : Trace _). g.honest p.store.disk) same honestly) rest disk lists past.answered [] [] (refl, refl) sound group in (
      last,
      refl,
      lists_last g only_now reported.0 reported.1 honestly rest disk lists,
      past,
      subst (λ (p : Trace _). LeavesOnly (g.instant first.store.disk) (g.instant p.store.disk) (g.left_since first.store.disk) (g.left_since p.store.disk)
          (HoldsSettled (traces_while_honest g) first.store.session (contents (g.files first.store.disk)) first past.ran past.out p)) (sym same) settles,
    )
