-- Steps that are said only where the disk is honest after them: where it is honest at the end, it
-- was at each step, and all of them are said.
use Rattle.std.proofs.Common.{arith, ◌≡◌, ◌⊎◌, inl, ℕ, Bool, true, false, nat_lt, List, [], ◌∷◌, ◌++◌, Option, Result, Ok, Err, refl, ap, ◌∙◌, subst, append_assoc}
use Rattle.std.proofs.lemmas.Grind.{common_steps}
use Rattle.org_disk.specs.declared.disk.Disk.{Ghosts}
use Rattle.org_commands.specs.declared.command.Command.{Command}
use Rattle.org_commands.specs.declared.tally.Group.{Group}
use Rattle.org_commands.specs.declared.tally.Group.TheVariants.{Of, Whole}
use Rattle.org_commands.specs.Session.{StoreView}
use Rattle.org_store.specs.Calls.{Machine, stores, traces}
use Rattle.org_store.specs.History.{Trace}
use Rattle.org_serve.specs.Pipes.{Exchange, Output}
use Rattle.org_serve.specs.declared.end.ServeEnd.{ServeEnd}
use Rattle.org_serve.specs.declared.end.ServeEnd.TheVariants.{Write}
use Rattle.org_fault.specs.declared.fault.Fault.{Fault}
use Rattle.org_serve.specs.declared.fault.BadLine.{BadLine}
use Rattle.org_serve.specs.declared.pending.Pending.{Pending}
use Rattle.org_serve.specs.declared.serving.Next.{Next}
use Rattle.org_serve.specs.declared.serving.Next.TheVariants.{Line, Stop}
use Rattle.org_serve.specs.History.{Reaches}
use Rattle.org_serve.specs.Lines.{cut}
use Rattle.org_serve.specs.Serving.{Answers, AnswersEach, AnswersLine, AnswersRead, EndsAt, EndsBy, EndsWith, Finishes, HasSettled, LineLeadsTo, MayHaveSettled, Passes, PassesAll, ReadLeadsTo, RunsLines, RunsSome, ServesToEnd, Stops, stores_while_honest, traces_while_honest, if_good}
use Rattle.org_serve.proofs.Inputs.{Served}

-- the same machine, where the state after each call is good
abbrev pub and_good : {S : Type 0} → (S → Type 0) → Machine S → Machine S
and_good good m = record { session = m.session; makes = λ old call new. m.makes old call new × good new }

module _ {S : Type 0} (good : S → Type 0) (m : Machine S) where
  abbrev Said : Machine S
  Said = if_good good m

  abbrev Sound : Machine S
  Sound = and_good good m

  honest_read : (old : S) (read : Result Command (Fault BadLine)) (out : List ℕ) (new : S) → AnswersRead Said old read out new → good new → AnswersRead Sound old read out new × good old
  honest_read old (Err fault) out new ran here = ((ran.0, ran.1), subst good ran.1 here)
  honest_read old (Ok command) out new ran here = ((ran.0, (ran.1.did here, here), ran.2), ran.1.before here)

  -- .. and what comes after it
  honest_leads : (group : Group) (next : Next) (old : S) (read : Result Command (Fault BadLine)) (out : List ℕ) (new : S) → ReadLeadsTo group next Said old read out new → good new
      → ReadLeadsTo group next Sound old read out new × good old
  honest_leads (Of size) Line old read out new ran here = honest_read old read out new ran here
  honest_leads (Of size) Stop old read out new ran here = absurd ran
  honest_leads Whole Line old (Err fault) out new ran here = absurd ran
  honest_leads Whole Line old (Ok command) out new ran here = ((ran.0, (ran.1.did here, here), ran.2), ran.1.before here)
  honest_leads Whole Stop old (Err fault) out new ran here = ((ran.0, ran.1), subst good ran.1 here)
  honest_leads Whole Stop old (Ok command) out new ran here = ((ran.0, (ran.1.did here, here), ran.2), ran.1.before here)

  -- a way in which a line is answered, said where the state after it is good
  abbrev Ways : (P Q : S → List ℕ → List ℕ → S → Type 0) → Type 0
  Ways P Q = (old : S) (line out : List ℕ) (new : S) → P old line out new → good new → Q old line out new × good old

  honest_line : Ways (AnswersLine Said) (AnswersLine Sound)
  honest_line old line out new a here = let one = honest_read old a.0 out new a.2 here in ((a.0, a.1, one.0), one.1)

  honest_leading : (group : Group) (next : Next) → Ways (LineLeadsTo group next Said) (LineLeadsTo group next Sound)
  honest_leading group next old line out new a here = let one = honest_leads group next old a.0 out new a.2 here in ((a.0, a.1, one.0), one.1)

  honest_each : (P Q : S → List ℕ → List ℕ → S → Type 0) → Ways P Q → (old : S) (lines : List (List ℕ)) (out : List ℕ) (new : S) → AnswersEach P old lines out new → good new
      → AnswersEach Q old lines out new × good old
  honest_each P Q one old [] out new a here = ((a.0, a.1), subst good a.1 here)
  honest_each P Q one old (line ∷ lines) out new a here = grind (arith, common_steps, honest_each P Q one a.0 lines a.2 new a.5 here)

  pub honest_lines : (old : S) (lines : List (List ℕ)) (out : List ℕ) (new : S) → Answers Said old lines out new → good new → Answers Sound old lines out new × good old
  honest_lines old lines out new a here = honest_each (AnswersLine Said) (AnswersLine Sound) honest_line old lines out new a here

  honest_passes : (group : Group) (old : S) (lines : List (List ℕ)) (out : List ℕ) (new : S) → PassesAll group Said old lines out new → good new → PassesAll group Sound old lines out new × good old
  honest_passes group old lines out new a here = honest_each (Passes group Said) (Passes group Sound) (honest_leading group Line) old lines out new a here

  honest_ends_at : (group : Group) (P Q : S → List ℕ → List ℕ → S → Type 0) → Ways P Q → {old new : S} {lines : List (List ℕ)} {out : List ℕ} → EndsAt group Said P old lines out new → good new
      → EndsAt group Sound Q old lines out new
  honest_ends_at group P Q one {old} {new} ends here = grind (arith, common_steps, honest_passes)

  -- the settling was made or wasn't
  pub honest_last : (mid new : S) → (new ≡ mid) ⊎ HasSettled Said mid new → good new → ((new ≡ mid) ⊎ HasSettled Sound mid new) × good mid
  honest_last mid new ends here = grind (arith, common_steps)

  honest_ends : (fell pending : Bool) (old : S) (end : ServeEnd) (out : List ℕ) (new : S) → EndsBy Said fell pending old end out new → good new → EndsBy Sound fell pending old end out new × good old
  honest_ends true pending old end out new ends here = ((ends.0, ends.1, ends.2), subst good ends.2 here)
  honest_ends false true old end out new ends here = ((ends.0, (ends.1.did here, here), ends.2, ends.3), ends.1.before here)
  honest_ends false false old end out new ends here = ((ends.0, ends.1, ends.2), subst good ends.2 here)

  honest_finish : (group : Group) (part : List ℕ) (old : S) (end : ServeEnd) (out : List ℕ) (new : S) → Finishes group Said part old end out new → good new → Finishes group Sound part old end out new
  honest_finish (Of size) part old end out new f here =
      (honest_ends (m.session old).broken (nat_lt (m.session old).acknowledged (m.session old).accepted) old end out new f here).0
  honest_finish Whole part old end out new f here = f

  pub honest_end : (group : Group) (part : List ℕ) (old : S) (end : ServeEnd) (new : S) (output : Output) → EndsWith group Said part old end new output → good new → EndsWith group Sound part old end new output
  honest_end group part old end new output e here = (e.0, e.1, e.2, honest_finish group part old end e.1 new e.3 here, e.4)

  pub honest_may : (group : Group) (old new : S) → MayHaveSettled group Said old new → good new → MayHaveSettled group Sound old new
  honest_may (Of size) old new settled here = (honest_last old new settled here).0
  honest_may Whole old new settled here = settled

  pub honest_served : (group : Group) {old new : S} {left left' written written' : Option (List ℕ)} {pending : Pending} → Served group Said old new left left' written written' pending → good new
      → Served group Sound old new left left' written written' pending
  honest_served group {old} {new} s here = grind (arith, common_steps, honest_passes, cut)

  pub honest_some : (group : Group) (old new : S) (io : Exchange) → RunsSome group Said old new io → good new → RunsSome group Sound old new io
  honest_some group old new io some here = (some.0, some.1, some.2, honest_ends_at group (AnswersLine Said) (AnswersLine Sound) honest_line some.3 here)

  pub honest_stop : (group : Group) (old : S) (end : ServeEnd) (new : S) (io : Exchange) → ServesToEnd group Said old end new io → good new → ServesToEnd group Sound old end new io
  unfolding honest_ends_at
  honest_stop group old end new io stop here =
      (stop.0, stop.1, stop.2, stop.3, honest_ends_at group (Stops group Said) (Stops group Sound) (honest_leading group Stop) stop.4 here, stop.5, stop.6, stop.7, stop.8, stop.9)

  abbrev pub honest_runs : {old new : S} {end : ServeEnd} {io : Exchange} → RunsLines Said old new end io → good new → RunsLines Sound old new end io × good old
  honest_runs {old} {new} run here =
      let ends = honest_last run.mid new run.ends here in
      let lines = honest_lines old run.ran run.out run.mid run.answered ends.1 in (
        record {
          input = run.input;
          ran = run.ran;
          others = run.others;
          out = run.out;
          mid = run.mid;
          read = run.read;
          lines = run.lines;
          answered = lines.0;
          ends = ends.0;
          wrote = run.wrote;
        },
        lines.1,
      )

  pub honest_reaches : (old : S) (lines : List (List ℕ)) (out : List ℕ) (new here : S) → Reaches Said old lines out new here → good new → Reaches Sound old lines out new here × good here
  honest_reaches old lines out new here reaches honestly = grind (arith, common_steps, honest_lines)

-- The run up to an intermediate state, as one in which a write failed there.
abbrev pub up_to : {S : Type 0} {m : Machine S} {first last : S} {end : ServeEnd} {io : Exchange} → (run : RunsLines m first last end io) (here : S) (way : Reaches m first run.ran run.out run.mid here) → RunsLines m first here Write io
up_to run here way = record {
  input = run.input;
  ran = way.answered;
  others = way.others ++ run.others;
  out = way.written;
  mid = here;
  read = run.read;
  lines = run.lines ∙ ap (λ ls. ls ++ run.others) way.all_lines ∙ append_assoc way.answered way.others run.others;
  answered = way.before;
  ends = inl refl;
  wrote = λ not. absurd (not refl);
}

-- Stores over a disk that is honest after each call, and these with their traces.
module _ {D : Type 0} (g : Ghosts D) where
  abbrev pub sound_stores : Machine (StoreView D)
  sound_stores = and_good (λ store. g.honest store.disk) (stores g)

  abbrev pub sound_traces : Machine (Trace D)
  sound_traces = and_good (λ trace. g.honest trace.store.disk) (traces g)

  pub sound_served : (group : Group) {old new : StoreView D} {left left' written written' : Option (List ℕ)} {pending : Pending} → Served group (stores_while_honest g) old new left left' written written' pending → g.honest new.disk
      → Served group sound_stores old new left left' written written' pending
  sound_served group s here = honest_served (λ (store : StoreView D). g.honest store.disk) (stores g) group s here

  pub sound_some : (group : Group) (old new : StoreView D) (io : Exchange) → RunsSome group (stores_while_honest g) old new io → g.honest new.disk → RunsSome group sound_stores old new io
  sound_some group old new io some here = honest_some (λ (store : StoreView D). g.honest store.disk) (stores g) group old new io some here

  pub sound_stop : (group : Group) (old : StoreView D) (end : ServeEnd) (new : StoreView D) (io : Exchange) → ServesToEnd group (stores_while_honest g) old end new io → g.honest new.disk → ServesToEnd group sound_stores old end new io
  sound_stop group old end new io stop here = honest_stop (λ (store : StoreView D). g.honest store.disk) (stores g) group old end new io stop here

  pub sound_end : (group : Group) (part : List ℕ) (old : StoreView D) (end : ServeEnd) (new : StoreView D) (output : Output) → EndsWith group (stores_while_honest g) part old end new output → g.honest new.disk
      → EndsWith group sound_stores part old end new output
  sound_end group part old end new output e here = honest_end (λ (store : StoreView D). g.honest store.disk) (stores g) group part old end new output e here

  pub sound_may : (group : Group) (old new : StoreView D) → MayHaveSettled group (stores_while_honest g) old new → g.honest new.disk → MayHaveSettled group sound_stores old new
  sound_may group old new settled here = honest_may (λ (store : StoreView D). g.honest store.disk) (stores g) group old new settled here

  pub sound_runs : {old new : StoreView D} {end : ServeEnd} {io : Exchange} → RunsLines (stores_while_honest g) old new end io → g.honest new.disk → RunsLines sound_stores old new end io
  sound_runs run here = (honest_runs (λ (store : StoreView D). g.honest store.disk) (stores g) run here).0

  abbrev pub sound_traced : {old new : Trace D} {end : ServeEnd} {io : Exchange} → RunsLines (traces_while_honest g) old new end io → g.honest new.store.disk → RunsLines sound_traces old new end io × g.honest old.store.disk
  sound_traced run here = honest_runs (λ (trace : Trace D). g.honest trace.store.disk) (traces g) run here

  pub sound_reaches : (old : Trace D) (lines : List (List ℕ)) (out : List ℕ) (new here : Trace D) → Reaches (traces_while_honest g) old lines out new here → g.honest new.store.disk → Reaches sound_traces old lines out new here
  sound_reaches old lines out new here reaches honestly = (honest_reaches (λ (trace : Trace D). g.honest trace.store.disk) (traces g) old lines out new here reaches honestly).0

  -- the store before the settling at the end
  pub sound_last : (mid new : Trace D) → (new ≡ mid) ⊎ HasSettled (traces_while_honest g) mid new → g.honest new.store.disk → g.honest mid.store.disk
  sound_last mid new ends here = (honest_last (λ (trace : Trace D). g.honest trace.store.disk) (traces g) mid new ends here).1

  pub sound_lines : (old : Trace D) (lines : List (List ℕ)) (out : List ℕ) (new : Trace D) → Answers (traces_while_honest g) old lines out new → g.honest new.store.disk → Answers sound_traces old lines out new × g.honest old.store.disk
  sound_lines old lines out new a here = honest_lines (λ (trace : Trace D). g.honest trace.store.disk) (traces g) old lines out new a here
