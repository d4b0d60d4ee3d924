-- What serving does to the disk of a store, line by line.
use Rattle.std.proofs.Common.{◌≡◌, ◌≢◌, ◌⊎◌, inl, inr, ⊎_elim, ℕ, Bool, true, false, nat_lt, List, [], ◌∷◌, ◌++◌, Option, Result, Ok, Err, refl, sym, ap, ◌∙◌, subst, append-nil, append_assoc, arith}
use Rattle.std.proofs.lemmas.Grind.{common_steps}
use Rattle.org_disk.specs.declared.disk.Disk.{Ghosts}
use Rattle.std.specs.Io.KnownBytes.{Appends, Consumes}
use Rattle.org_commands.specs.declared.command.Command.{Command}
use Rattle.org_commands.specs.declared.command.Command.TheVariants.{Settle}
use Rattle.org_commands.specs.declared.tally.Group.{Group}
use Rattle.org_commands.specs.declared.tally.Group.TheVariants.{Of, Whole}
use Rattle.org_commands.specs.Session.{StoreView}
use Rattle.org_store.specs.Calls.{Call, Machine, StepsBy}
use Rattle.org_store.specs.Calls.Call.{Grouped, Ran, Settled}
use Rattle.org_store.proofs.Calls.{reply_of, settling_runs}
use Rattle.org_store.proofs.Runs.{Course, course_none, course_run}
use Rattle.org_serve.specs.Pipes.{Adds, AddsSome, AppendsSome, Exchange, Output, output_of}
use Rattle.org_serve.specs.declared.end.ServeEnd.{ServeEnd}
use Rattle.org_serve.specs.declared.end.ServeEnd.TheVariants.{End, Unsettled, Device, Read, Write}
use Rattle.org_fault.specs.declared.fault.Fault.{Fault}
use Rattle.org_serve.specs.declared.fault.BadLine.{BadLine}
use Rattle.org_serve.specs.declared.pending.Pending.{Pending}
use Rattle.org_serve.specs.declared.serving.Next.{Next}
use Rattle.org_serve.specs.declared.serving.Next.TheVariants.{Line, Stop}
use Rattle.org_serve.specs.Serving.{Answers, AnswersEach, AnswersLine, AnswersRead, EndsAt, EndsBy, EndsText, EndsWith, Finishes, HasSettled, LeavesServedDisk, LineLeadsTo, MayHaveSettled, Passes, PassesAll, ReadLeadsTo, RunsLines, RunsAndWrites, RunsSome, ServesToEnd, Stops, stores_while_honest, whole_end}
use Rattle.org_serve.specs.Lines.{cut}
use Rattle.org_serve.proofs.Honest.{sound_stores}
use Rattle.org_serve.proofs.Inputs.{Served}
use Rattle.org_serve.proofs.Counting.{read_apart}
use Rattle.org_serve.proofs.Joins.{Appends-append, Appends-none, all_answer, end_answers, end_weaker, line_answers, some_then}

-- What was run, as serving ends.

write_or_not : (end : ServeEnd) → (end ≡ Write) ⊎ (end ≢ Write)
write_or_not End = inr (λ e. absurd (cc))
write_or_not Unsettled = inr (λ e. absurd (cc))
write_or_not Device = inr (λ e. absurd (cc))
write_or_not Read = inr (λ e. absurd (cc))
write_or_not Write = inl refl

-- no line is left of what was read
pub runs_whole : {S : Type 0} {m : Machine S} {old mid : S} (group : Group) (io : Exchange) {among : Option (List ℕ)} {pending : Pending}
    → Served group m old mid io.before.left io.after.left io.before.written among pending → (new : S) (end : ServeEnd)
    → (new ≡ mid) ⊎ HasSettled m mid new → (end ≢ Write → (tail : List ℕ) × Appends among io.after.written tail) → RunsLines m old new end io
runs_whole {m = m} {old = old} {mid = mid} group io {among = among} s new end ends wrote = record {
  input = s.input;
  ran = (cut s.input).lines;
  others = [];
  out = s.out;
  mid = mid;
  read = s.read;
  lines = sym (append-nil (cut s.input).lines);
  answered = all_answer group m old (cut s.input).lines s.out mid s.passes;
  ends = ends;
  wrote = λ not. let tail = wrote not in (tail.0, Appends-append io.before.written among io.after.written s.out tail.0 s.wrote tail.1);
}

-- nothing was settled at the end
pub none_settled : {S : Type 0} (group : Group) (m : Machine S) (mid : S) → MayHaveSettled group m mid mid
none_settled (Of size) m mid = inl refl
none_settled Whole m mid = refl

-- .. or it may have been
pub may_have : {S : Type 0} (group : Group) (m : Machine S) (mid new : S) → MayHaveSettled group m mid new → (new ≡ mid) ⊎ HasSettled m mid new
may_have (Of size) m mid new settled = settled
may_have Whole m mid new same = inl same

-- no more is read
pub runs_read : {S : Type 0} {m : Machine S} {old new : S} (io : Exchange) {pending : Pending} → Served (m.session old).group m old new io.before.left io.after.left io.before.written io.after.written pending
    → RunsAndWrites m old new Read io
unfolding runs_whole
runs_read {m = m} {old = old} {new = new} io s =
    (runs_whole (m.session old).group io s new Read (inl refl) (λ not. ([], Appends-none io.after.written)), λ is. absurd (read_apart is), none_settled (m.session old).group m new)

-- the run up to a line at which it ends
runs_to : {S : Type 0} {m : Machine S} {old new : S} (group : Group) (end : ServeEnd) (io : Exchange) (input out : List ℕ) → Consumes io.before.left io.after.left input
    → EndsAt group m (AnswersLine m) old (cut input).lines out new → (end ≢ Write → (tail : List ℕ) × Adds (output_of io) (out ++ tail)) → RunsLines m old new end io
runs_to {m = m} {old = old} {new = new} group end io input out read ends wrote = record {
  input = input;
  ran = ends.passed ++ ends.line ∷ [];
  others = ends.others;
  out = out;
  mid = new;
  read = read;
  lines = ends.all_lines ∙ sym (append_assoc ends.passed (ends.line ∷ []) ends.others);
  answered = end_answers group m ends;
  ends = inl refl;
  wrote = wrote;
}

-- a write fails among the lines
pub runs_some : {S : Type 0} {m : Machine S} {old new : S} (io : Exchange) → (some : RunsSome (m.session old).group m old new io) → AddsSome (output_of io) some.1 → RunsAndWrites m old new Write io
unfolding runs_to
runs_some {m = m} {old = old} {new = new} io some begun =
    (runs_to (m.session old).group Write io some.0 some.1 some.2 some.3 (λ not. absurd (not refl)), λ is. inl begun, none_settled (m.session old).group m new)

-- a line is the last
pub runs_stop : {S : Type 0} {m : Machine S} {old new : S} (end : ServeEnd) (io : Exchange) → end ≢ Write → ServesToEnd (m.session old).group m old end new io → RunsAndWrites m old new end io
unfolding runs_to
runs_stop {m = m} {old = old} {new = new} end io unwritten stop =
    let group = (m.session old).group in (
      runs_to group end io stop.0 stop.1 stop.3 (end_weaker group m (Stops group m) (AnswersLine m) (line_answers group Stop m) stop.4) (λ not. ([], subst (Adds (output_of io)) (sym (append-nil stop.1)) stop.8)),
      λ is. absurd (unwritten is),
      none_settled group m new,
    )

-- One machine for another, of which each call is one.
module _ {S T : Type 0} (m : Machine S) (n : Machine T) (view : S → T) (same : (s : S) → n.session (view s) ≡ m.session s)
    (calls : (old : S) (call : Call) (new : S) → m.makes old call new → n.makes (view old) call (view new)) where
  read_by : (old : S) (read : Result Command (Fault BadLine)) (out : List ℕ) (new : S) → AnswersRead m old read out new → AnswersRead n (view old) read out (view new)
  read_by old (Err fault) out new ran = (ran.0, ap view ran.1)
  read_by old (Ok command) out new ran = (ran.0, calls old (Ran command ran.0) new ran.1, rw (same old, same new) ran.2)

  line_by : (old : S) (line out : List ℕ) (new : S) → AnswersLine m old line out new → AnswersLine n (view old) line out (view new)
  line_by old line out new a = (a.0, a.1, read_by old a.0 out new a.2)

  -- .. and what comes after it
  leads_by : (group : Group) (next : Next) (old : S) (read : Result Command (Fault BadLine)) (out : List ℕ) (new : S) → ReadLeadsTo group next m old read out new → ReadLeadsTo group next n (view old) read out (view new)
  leads_by (Of size) Line old read out new ran = read_by old read out new ran
  leads_by (Of size) Stop old read out new ran = absurd ran
  leads_by Whole Line old (Err fault) out new ran = absurd ran
  leads_by Whole Line old (Ok command) out new ran = (ran.0, calls old (Ran command (Ok ran.0)) new ran.1, rw (same old, same new) ran.2)
  leads_by Whole Stop old (Err fault) out new ran = (ran.0, ap view ran.1)
  leads_by Whole Stop old (Ok command) out new ran = (ran.0, calls old (Ran command (Err ran.0)) new ran.1, ran.2)

  line_leads_by : (group : Group) (next : Next) (old : S) (line out : List ℕ) (new : S) → LineLeadsTo group next m old line out new → LineLeadsTo group next n (view old) line out (view new)
  line_leads_by group next old line out new a = (a.0, a.1, leads_by group next old a.0 out new a.2)

  each_by : (P : S → List ℕ → List ℕ → S → Type 0) (Q : T → List ℕ → List ℕ → T → Type 0) → ((old : S) (line out : List ℕ) (new : S) → P old line out new → Q (view old) line out (view new))
      → (old : S) (lines : List (List ℕ)) (out : List ℕ) (new : S) → AnswersEach P old lines out new → AnswersEach Q (view old) lines out (view new)
  each_by P Q one old [] out new a = (a.0, ap view a.1)
  each_by P Q one old (line ∷ lines) out new a = (view a.0, a.1, a.2, one old line a.1 a.0 a.3, a.4, each_by P Q one a.0 lines a.2 new a.5)

  pub lines_by : (old : S) (lines : List (List ℕ)) (out : List ℕ) (new : S) → Answers m old lines out new → Answers n (view old) lines out (view new)
  lines_by old lines out new a = each_by (AnswersLine m) (AnswersLine n) line_by old lines out new a

  pub passes_by : (group : Group) (old : S) (lines : List (List ℕ)) (out : List ℕ) (new : S) → PassesAll group m old lines out new → PassesAll group n (view old) lines out (view new)
  passes_by group old lines out new a = each_by (Passes group m) (Passes group n) (line_leads_by group Line) old lines out new a

  ends_at_by : (group : Group) (P : S → List ℕ → List ℕ → S → Type 0) (Q : T → List ℕ → List ℕ → T → Type 0) → ((old : S) (line out : List ℕ) (new : S) → P old line out new → Q (view old) line out (view new))
      → {old new : S} {lines : List (List ℕ)} {out : List ℕ} → EndsAt group m P old lines out new → EndsAt group n Q (view old) lines out (view new)
  ends_at_by group P Q one {old} {new} ends = grind (arith, common_steps, passes_by)

  abbrev pub served_by : (group : Group) {old new : S} {left left' written written' : Option (List ℕ)} {pending : Pending} → Served group m old new left left' written written' pending
      → Served group n (view old) (view new) left left' written written' pending
  served_by group {old} {new} s = record {
    input = s.input;
    out = s.out;
    read = s.read;
    passes = passes_by group old (cut s.input).lines s.out new s.passes;
    wrote = s.wrote;
    stands = s.stands;
  }

  pub some_by : (group : Group) (old new : S) (io : Exchange) → RunsSome group m old new io → RunsSome group n (view old) (view new) io
  some_by group old new io some = (some.0, some.1, some.2, ends_at_by group (AnswersLine m) (AnswersLine n) line_by some.3)

  pub stop_by : (group : Group) (old : S) (end : ServeEnd) (new : S) (io : Exchange) → ServesToEnd group m old end new io → ServesToEnd group n (view old) end (view new) io
  unfolding ends_at_by
  stop_by group old end new io stop =
      (stop.0, stop.1, stop.2, stop.3, ends_at_by group (Stops group m) (Stops group n) (line_leads_by group Stop) stop.4, stop.5, stop.6, stop.7, stop.8, rw (same new) stop.9)

  pub settled_by : (group : Group) (old new : S) → MayHaveSettled group m old new → MayHaveSettled group n (view old) (view new)
  settled_by (Of size) old new settled = ⊎_elim (λ is. inl (ap view is)) (λ made. inr (made.0, calls old (Settled made.0) new made.1)) settled
  settled_by Whole old new settled = ap view settled

  end_by : (fell pending : Bool) (old : S) (end : ServeEnd) (out : List ℕ) (new : S) → EndsBy m fell pending old end out new → EndsBy n fell pending (view old) end out (view new)
  end_by true pending old end out new f = (f.0, f.1, ap view f.2)
  end_by false true old end out new f = (f.0, calls old (Settled f.0) new f.1, f.2, rw (same new) f.3)
  end_by false false old end out new f = (f.0, f.1, ap view f.2)

  finish_by : (group : Group) (part : List ℕ) (old : S) (end : ServeEnd) (out : List ℕ) (new : S) → Finishes group m part old end out new → Finishes group n part (view old) end out (view new)
  finish_by (Of size) part old end out new f =
      rw (same old) (end_by (m.session old).broken (nat_lt (m.session old).acknowledged (m.session old).accepted) old end out new f)
  finish_by Whole part old end out new f = (f.0 ∙ ap (whole_end part) (sym (same old)), f.1, ap view f.2)

  pub ends_by : (group : Group) (part : List ℕ) (old : S) (end : ServeEnd) (new : S) (output : Output) → EndsWith group m part old end new output → EndsWith group n part (view old) end (view new) output
  ends_by group part old end new output e = (e.0, e.1, e.2, finish_by group part old end e.1 new e.3, e.4)

module _ {D : Type 0} (g : Ghosts D) where
  -- what is said of the session alone
  pub session_calls : (old : StoreView D) (call : Call) (new : StoreView D) → (sound_stores g).makes old call new → StepsBy old.session call new.session
  session_calls old (Ran command answer) new made = made.0.step
  session_calls old (Settled answer) new made = made.0.step
  session_calls old (Grouped group) new made = ap (λ (store : StoreView D). store.session) made.0

  -- What is said where the disk is honest.

  abbrev Said : Machine (StoreView D)
  Said = stores_while_honest g

  settled_or_not : (fell pending : Bool) (old : StoreView D) (end : ServeEnd) (out : List ℕ) (new : StoreView D) → EndsBy Said fell pending old end out new → (new ≡ old) ⊎ HasSettled Said old new
  settled_or_not true pending old end out new f = inl f.2
  settled_or_not false true old end out new f = inr (f.0, f.1)
  settled_or_not false false old end out new f = inl f.2

  settled_at_end : (group : Group) (part : List ℕ) (old : StoreView D) (end : ServeEnd) (new : StoreView D) (output : Output) → EndsWith group Said part old end new output → MayHaveSettled group Said old new
  settled_at_end (Of size) part old end new output e = settled_or_not old.session.broken (nat_lt old.session.acknowledged old.session.accepted) old end e.1 new e.3
  settled_at_end Whole part old end new output e = e.3.2

  -- the input was read to its end
  pub runs_finish : {old mid : StoreView D} (io : Exchange) {among : Option (List ℕ)} {pending : Pending} → (s : Served old.session.group Said old mid io.before.left io.after.left io.before.written among pending)
      (new : StoreView D) (end : ServeEnd)
      → (end ≢ Write → EndsWith old.session.group Said (cut s.input).rest mid end new (record { before = among; after = io.after.written })) → (end ≡ Write → MayHaveSettled old.session.group Said mid new)
      → (end ≡ Write → (text : List ℕ) × EndsText old.session.group (cut s.input).rest new.session.acknowledged text × AppendsSome among io.after.written text)
      → RunsAndWrites Said old new end io
  unfolding runs_whole
  runs_finish {old} {mid} io {among = among} s new end reported failed begun =
      let group = old.session.group in
      let settled : MayHaveSettled group Said mid new = ⊎_elim failed (λ not. settled_at_end group _ _ _ _ _ (reported not)) (write_or_not end) in (
        runs_whole group io s new end (may_have group Said mid new settled) (λ not. let e = reported not in (e.0 ++ e.1, e.4)),
        λ is. let text = begun is in inr (refl, text.0, text.1, some_then io.before.written among io.after.written s.out text.0 s.wrote text.2),
        settled,
      )

  -- What the disk is after it.

  abbrev Goes : StoreView D → StoreView D → Type 0
  Goes old new = Course g old new (λ s. Unit {0})

  course_read : (old mid new : StoreView D) (read : Result Command (Fault BadLine)) (out : List ℕ) → AnswersRead (sound_stores g) old read out mid → Goes mid new → Goes old new
  course_read old mid new (Err fault) out ran course = subst (λ k. Goes k new) ran.1 course
  course_read old mid new (Ok command) out ran course =
      course_run g old mid new command ran.0 (λ s. Unit {0}) (λ s. Unit {0}) ran.1.0 course tt (λ fine s later. tt) tt (λ texts failed accepted full. tt)

  course_lines : (old mid new : StoreView D) (lines : List (List ℕ)) (out : List ℕ) → Answers (sound_stores g) old lines out mid → Goes mid new → Goes old new
  course_lines old mid new [] out answers course = subst (λ k. Goes k new) answers.1 course
  course_lines old mid new (line ∷ lines) out answers course =
      course_read old answers.0 new answers.3.0 answers.1 answers.3.2 (course_lines answers.0 mid new lines answers.2 answers.5 course)

  course_end : (mid new : StoreView D) → (new ≡ mid) ⊎ HasSettled (sound_stores g) mid new → Goes mid new
  course_end mid new ends = ⊎_elim
      (λ same. subst (λ (k : StoreView D). Goes mid k) (sym same) (course_none g mid (λ s. Unit {0}) tt))
      (λ settled.
      course_run g mid new new Settle (reply_of mid.session.accepted settled.0) (λ s. Unit {0}) (λ s. Unit {0}) (settling_runs g mid new settled.0 settled.1.0) (course_none g new (λ s. Unit {0}) tt) tt
      (λ fine s later. tt) tt (λ texts failed accepted full. tt))
      ends

  module _ {old new : StoreView D} {end : ServeEnd} {io : Exchange} (run : RunsLines (sound_stores g) old new end io) where
    course_runs : Goes old new
    course_runs = course_lines old run.mid new run.ran run.out run.answered (course_end run.mid new run.ends)

    pub runs_keep : LeavesServedDisk g.files old new
    runs_keep = record { recoverable = course_runs.recoverable; rest = course_runs.rest; others = λ disk sound. course_runs.others sound disk; untouched = course_runs.stays }
