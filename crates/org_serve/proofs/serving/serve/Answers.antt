use Rattle.std.proofs.lemmas.List.{length-take}
use Rattle.std.proofs.Common.{◌≡◌, ◌∙◌, arith, ◌<◌, ◌≤◌, ◌++◌, ℕ, List, length, take, inl, inr, refl, subst}
use Rattle.org_serve.specs.declared.end.ServeEnd.TheVariants.{Write}
use Rattle.org_serve.specs.Pipes.{AddsSome, HasRisenBy, HasRead}
use Rattle.org_serve.specs.Lines.{cut}
use Rattle.org_serve.specs.Serving.{most_read, EndsText, EndsWith, FeedsAll, FeedsSome, FeedsToEnd, MayHaveSettled, stores_while_honest}
use Rattle.org_store.specs.Calls.{model}
use Rattle.org_serve.specs.Writes.{exchange, output}
use Rattle.org_serve.proofs.Cuts.{rest-free}
use Rattle.org_serve.proofs.Inputs.{Served-none, Served-more, Served-some, Served-some_wrote, Served-stop, Served-no_more, serves_read, serves_some, serves_stop, serves_end}
use Rattle.org_serve.proofs.Joins.{Consumes-kept}
use Rattle.org_serve.proofs.Counting.{HasRisenBy-counted, within_counted, within_all, read_none, read_more, ended_read, ended_otherwise}
use Rattle.org_serve.proofs.Breaking.{untouched_then, breaks_then, accounts_still, refused_reported}
use Rattle.org_serve.proofs.Honest.{sound_end, sound_may, sound_runs, sound_served, sound_some, sound_stop, sound_stores}
use Rattle.org_serve.proofs.Crashes.{ends_by, runs_finish, runs_keep, runs_read, runs_some, runs_stop, served_by, session_calls, settled_by, some_by, stop_by}
use Rattle.org_serve.proofs.serving.serve.Goals as goal

pub returns-in-Ok-eq0-clause-causes : goal.returns-in-Ok-eq0-clause-causes
returns-in-Ok-eq0-clause-causes g c =
    ended_otherwise (exchange g.R.Source g.W.Sink c.args.reader.now c.read.new.self c.args.writer.now c.finish.new.writer) c.finish.result c.finish.ensures.never
    (within_all c.args.max_reads c.loop.counter (g.R.Source.reads c.args.reader.now) (g.R.Source.reads c.read.new.self) (within_counted c.loop.counter (g.R.Source.reads c.args.reader.now) (g.R.Source.reads c.loop.reader) (g.R.Source.reads c.read.new.self) c.loop.invariant.6 c.in-Ok-eq0.ensures.counted) (omega arith))
    (c.in-Ok-eq0.ensures.ok ∙ c.loop.invariant.4) c.loop.invariant.5 (λ is. (c.finish.ensures.write is).1) (λ not. (c.finish.ensures.reported not).0)

pub returns-in-Ok-eq0-clause-calls : goal.returns-in-Ok-eq0-clause-calls
returns-in-Ok-eq0-clause-calls g c =
    let d = g.D.Disk in
    let group = c.args.store.now.session.group in
    let io = exchange g.R.Source g.W.Sink c.args.reader.now c.read.new.self c.args.writer.now c.finish.new.writer in
    let zero : c.in-Ok-eq0.field-0 ≡ 0 = omega arith in
    let read = rw zero at c.in-Ok-eq0.ensures.bytes in
    let s = Served-no_more c.loop.invariant.0 (g.R.Source.left c.read.new.self) read.0 in
    runs_finish d io s c.finish.new.store c.finish.result
    (λ not. subst (λ k. EndsWith k (stores_while_honest d) (cut s.input).rest c.loop.store c.finish.result c.finish.new.store (output g.W.Sink c.loop.writer c.finish.new.writer)) c.group-group.ensures
    ((c.finish.ensures.reported not).1 (cut s.input).rest s.stands))
    (λ is. subst (λ k. MayHaveSettled k (stores_while_honest d) c.loop.store c.finish.new.store) c.group-group.ensures (c.finish.ensures.write is).0)
    (λ is. subst (λ k. (text : List ℕ) × EndsText k (cut s.input).rest c.finish.new.store.session.acknowledged text × AddsSome (output g.W.Sink c.loop.writer c.finish.new.writer) text) c.group-group.ensures
    ((c.finish.ensures.write is).2 (cut s.input).rest s.stands))

pub returns-in-Ok-eq0-clause-did : goal.returns-in-Ok-eq0-clause-did
returns-in-Ok-eq0-clause-did g c = λ honest.
    let d = g.D.Disk in
    let group = c.args.store.now.session.group in
    let zero : c.in-Ok-eq0.field-0 ≡ 0 = omega arith in
    let read = rw zero at c.in-Ok-eq0.ensures.bytes in
    let s = sound_served d group (Served-no_more c.loop.invariant.0 (g.R.Source.left c.read.new.self) read.0) (c.finish.ensures.accounts.was_honest honest) in
    let room : 0 < length c.read.new.into = omega (arith, c.read.auto.into) in (
      serves_end (exchange g.R.Source g.W.Sink c.args.reader.now c.read.new.self c.args.writer.now c.finish.new.writer) (served_by (sound_stores d) model (λ store. store.session) (λ store. refl) (session_calls d) group s)
          c.finish.result c.finish.new.store.session (c.in-Ok-eq0.ensures.bytes.1 zero room) c.finish.ensures.never
          (λ no_write. ends_by (sound_stores d) model (λ store. store.session) (λ store. refl) (session_calls d) group (cut s.input).rest c.loop.store c.finish.result c.finish.new.store (output g.W.Sink c.loop.writer c.finish.new.writer)
          (sound_end d group (cut s.input).rest c.loop.store c.finish.result c.finish.new.store (output g.W.Sink c.loop.writer c.finish.new.writer)
          (subst (λ k. EndsWith k (stores_while_honest d) (cut s.input).rest c.loop.store c.finish.result c.finish.new.store (output g.W.Sink c.loop.writer c.finish.new.writer)) c.group-group.ensures
          ((c.finish.ensures.reported no_write).1 (cut s.input).rest s.stands)) honest))
          (λ e. settled_by (sound_stores d) model (λ store. store.session) (λ store. refl) (session_calls d) group c.loop.store c.finish.new.store
          (sound_may d group c.loop.store c.finish.new.store
          (subst (λ k. MayHaveSettled k (stores_while_honest d) c.loop.store c.finish.new.store) c.group-group.ensures (c.finish.ensures.write e).0) honest)),
      runs_keep d (sound_runs d (returns-in-Ok-eq0-clause-calls g c).0 honest),
    )

pub returns-in-Err-feed-clause-causes : goal.returns-in-Err-feed-clause-causes
returns-in-Err-feed-clause-causes g c =
    ended_otherwise (exchange g.R.Source g.W.Sink c.args.reader.now c.read.new.self c.args.writer.now c.feed.new.writer) Write (λ e. absurd (cc))
    (within_all c.args.max_reads c.loop.counter (g.R.Source.reads c.args.reader.now) (g.R.Source.reads c.read.new.self) (within_counted c.loop.counter (g.R.Source.reads c.args.reader.now) (g.R.Source.reads c.loop.reader) (g.R.Source.reads c.read.new.self) c.loop.invariant.6 c.in-Ok.ensures.counted) (omega arith))
    (c.in-Ok.ensures.ok ∙ c.loop.invariant.4) c.loop.invariant.5 (λ e. c.in-Err-feed.ensures.counts.counted) (λ not. absurd (not refl))

pub returns-in-Err-feed-clause-calls : goal.returns-in-Err-feed-clause-calls
returns-in-Err-feed-clause-calls g c =
    let s = c.loop.invariant.0 in
    let piece = take c.in-Ok.n c.read.new.into in
    let io = exchange g.R.Source g.W.Sink c.args.reader.now c.read.new.self c.args.writer.now c.feed.new.writer in
    let fed = subst (λ k. FeedsSome k (stores_while_honest g.D.Disk) c.loop.store ((cut s.input).rest ++ piece) c.feed.new.store (output g.W.Sink c.loop.writer c.feed.new.writer)) c.group-group.ensures
    (c.in-Err-feed.ensures.fed (cut s.input).rest (rest-free s.input) s.stands) in
    runs_some io (Served-some io s piece c.feed.new.store c.in-Ok.ensures.bytes.0 fed) (Served-some_wrote io s piece c.feed.new.store c.in-Ok.ensures.bytes.0 fed)

pub returns-in-Err-feed-clause-did : goal.returns-in-Err-feed-clause-did
returns-in-Err-feed-clause-did g c = λ honest.
    let d = g.D.Disk in
    let group = c.args.store.now.session.group in
    let s = c.loop.invariant.0 in
    let piece = take c.in-Ok.n c.read.new.into in
    let io = exchange g.R.Source g.W.Sink c.args.reader.now c.read.new.self c.args.writer.now c.feed.new.writer in
    let fed = subst (λ k. FeedsSome k (stores_while_honest d) c.loop.store ((cut s.input).rest ++ piece) c.feed.new.store (output g.W.Sink c.loop.writer c.feed.new.writer)) c.group-group.ensures
    (c.in-Err-feed.ensures.fed (cut s.input).rest (rest-free s.input) s.stands) in (
      serves_some io
          (some_by (sound_stores d) model (λ store. store.session) (λ store. refl) (session_calls d) group c.args.store.now c.feed.new.store io (sound_some d group c.args.store.now c.feed.new.store io
          (Served-some io s piece c.feed.new.store c.in-Ok.ensures.bytes.0 fed) honest)),
      runs_keep d (sound_runs d (returns-in-Err-feed-clause-calls g c).0 honest),
    )

pub returns-in-Ok-Stop-clause-calls : goal.returns-in-Ok-Stop-clause-calls
returns-in-Ok-Stop-clause-calls g c =
    let end = c.refused_end.result in
    let io = exchange g.R.Source g.W.Sink c.args.reader.now c.read.new.self c.args.writer.now c.feed.new.writer in
    let s = c.loop.invariant.0 in
    let piece = take c.in-Ok.n c.read.new.into in
    let within : length piece ≤ most_read = omega (arith, c.read.auto.into, length-take c.in-Ok.n c.read.new.into) in
    let fed = subst (λ k. FeedsToEnd k (stores_while_honest g.D.Disk) c.loop.store ((cut s.input).rest ++ piece) (length piece) c.feed.new.store (output g.W.Sink c.loop.writer c.feed.new.writer)) c.group-group.ensures
    ((rw c.in-Ok-Stop.field-0-is at c.in-Ok-Stop.ensures.fed) (cut s.input).rest (rest-free s.input) s.stands) in
    runs_stop end io (refused_reported c.feed.new.store.session end c.refused_end.ensures.value).1
    (Served-stop io s piece c.feed.new.store c.in-Ok.ensures.bytes.0 end within fed c.refused_end.ensures.value)

pub returns-in-Ok-Stop-clause-did : goal.returns-in-Ok-Stop-clause-did
returns-in-Ok-Stop-clause-did g c = λ honest.
    let d = g.D.Disk in
    let group = c.args.store.now.session.group in
    let end = c.refused_end.result in
    let reported = refused_reported c.feed.new.store.session end c.refused_end.ensures.value in
    let io = exchange g.R.Source g.W.Sink c.args.reader.now c.read.new.self c.args.writer.now c.feed.new.writer in
    let s = c.loop.invariant.0 in
    let piece = take c.in-Ok.n c.read.new.into in
    let within : length piece ≤ most_read = omega (arith, c.read.auto.into, length-take c.in-Ok.n c.read.new.into) in
    let fed = subst (λ k. FeedsToEnd k (stores_while_honest d) c.loop.store ((cut s.input).rest ++ piece) (length piece) c.feed.new.store (output g.W.Sink c.loop.writer c.feed.new.writer)) c.group-group.ensures
    ((rw c.in-Ok-Stop.field-0-is at c.in-Ok-Stop.ensures.fed) (cut s.input).rest (rest-free s.input) s.stands) in (
      serves_stop io reported.0 reported.1
          (stop_by (sound_stores d) model (λ store. store.session) (λ store. refl) (session_calls d) group c.args.store.now end c.feed.new.store io (sound_stop d group c.args.store.now end c.feed.new.store io
          (Served-stop io s piece c.feed.new.store c.in-Ok.ensures.bytes.0 end within fed c.refused_end.ensures.value) honest)),
      runs_keep d (sound_runs d (returns-in-Ok-Stop-clause-calls g c).0 honest),
    )

pub returns-in-Err-clause-causes : goal.returns-in-Err-clause-causes
returns-in-Err-clause-causes g c =
    ended_read (exchange g.R.Source g.W.Sink c.args.reader.now c.read.new.self c.args.writer.now c.loop.writer) c.loop.invariant.4 (inl c.in-Err.ensures.err)
    (within_all c.args.max_reads c.loop.counter (g.R.Source.reads c.args.reader.now) (g.R.Source.reads c.read.new.self) (within_counted c.loop.counter (g.R.Source.reads c.args.reader.now) (g.R.Source.reads c.loop.reader) (g.R.Source.reads c.read.new.self) c.loop.invariant.6 c.in-Err.ensures.counted) (omega arith))
    c.loop.invariant.5

pub returns-in-Err-clause-calls : goal.returns-in-Err-clause-calls
returns-in-Err-clause-calls g c =
    let d = g.D.Disk in
    runs_read (exchange g.R.Source g.W.Sink c.args.reader.now c.read.new.self c.args.writer.now c.loop.writer)
    (Served-no_more c.loop.invariant.0 (g.R.Source.left c.read.new.self) (Consumes-kept _ _ c.in-Err.ensures.bytes))

pub returns-in-Err-clause-did : goal.returns-in-Err-clause-did
returns-in-Err-clause-did g c = λ honest.
    let d = g.D.Disk in (
      serves_read (exchange g.R.Source g.W.Sink c.args.reader.now c.read.new.self c.args.writer.now c.loop.writer) (served_by (sound_stores d) model (λ store. store.session) (λ store. refl) (session_calls d) c.args.store.now.session.group
          (sound_served d c.args.store.now.session.group (Served-no_more c.loop.invariant.0 (g.R.Source.left c.read.new.self) (Consumes-kept _ _ c.in-Err.ensures.bytes)) honest)),
      runs_keep d (sound_runs d (returns-in-Err-clause-calls g c).0 honest),
    )

pub returns-in-Err-clause-broken : goal.returns-in-Err-clause-broken
returns-in-Err-clause-broken g c = tt

pub returns-clause-causes : goal.returns-clause-causes
returns-clause-causes g c =
    let all : c.loop.counter ≡ c.args.max_reads = omega arith in
    let risen = subst (λ n. HasRisenBy n (g.R.Source.reads c.args.reader.now) (g.R.Source.reads c.loop.reader)) all c.loop.invariant.3 in
    let had = subst (λ n. HasRead n (g.R.Source.left c.args.reader.now) (g.R.Source.left c.loop.reader)) all c.loop.invariant.7 in
    ended_read (exchange g.R.Source g.W.Sink c.args.reader.now c.loop.reader c.args.writer.now c.loop.writer) c.loop.invariant.4 (inr (risen, had)) (omega (arith, c.loop.invariant.6)) c.loop.invariant.5

pub returns-clause-calls : goal.returns-clause-calls
returns-clause-calls g c =
    let d = g.D.Disk in
    runs_read (exchange g.R.Source g.W.Sink c.args.reader.now c.loop.reader c.args.writer.now c.loop.writer) c.loop.invariant.0

pub returns-clause-did : goal.returns-clause-did
returns-clause-did g c = λ honest.
    let d = g.D.Disk in (
      serves_read (exchange g.R.Source g.W.Sink c.args.reader.now c.loop.reader c.args.writer.now c.loop.writer) (served_by (sound_stores d) model (λ store. store.session) (λ store. refl) (session_calls d) c.args.store.now.session.group (sound_served d c.args.store.now.session.group c.loop.invariant.0 honest)),
      runs_keep d (sound_runs d (returns-clause-calls g c).0 honest),
    )

pub loop-preserved : goal.loop-preserved
loop-preserved g c = (
  let s = c.loop.invariant.0 in
      let piece = take c.in-Ok.n c.read.new.into in
      Served-more s piece c.feed.new.store (g.R.Source.left c.read.new.self) (g.W.Sink.written c.feed.new.writer) c.in-Ok.ensures.bytes.0
      c.feed.new.pending
      (subst (λ k. FeedsAll k (stores_while_honest g.D.Disk) c.loop.store ((cut s.input).rest ++ piece) c.feed.new.store (output g.W.Sink c.loop.writer c.feed.new.writer) c.feed.new.pending) c.group-group.ensures
      ((rw c.in-Ok-Line.field-0-is at c.in-Ok-Line.ensures.fed) (cut s.input).rest (rest-free s.input) s.stands)),
  untouched_then c.loop.invariant.1 c.in-Ok-Line.ensures.untouched,
  breaks_then c.loop.invariant.1 c.in-Ok-Line.ensures.untouched c.loop.invariant.2 c.in-Ok-Line.ensures.accounts,
  HasRisenBy-counted c.loop.counter _ _ _ c.loop.invariant.3 c.in-Ok.ensures.counted,
  c.in-Ok.ensures.ok ∙ c.loop.invariant.4,
  c.in-Ok-Line.ensures.counts.same ∙ c.loop.invariant.5,
  within_counted c.loop.counter (g.R.Source.reads c.args.reader.now) (g.R.Source.reads c.loop.reader) (g.R.Source.reads c.read.new.self) c.loop.invariant.6 c.in-Ok.ensures.counted,
  read_more c.loop.counter (g.R.Source.left c.args.reader.now) (g.R.Source.left c.loop.reader) (g.R.Source.left c.read.new.self) (take c.in-Ok.n c.read.new.into) c.loop.invariant.7
      c.in-Ok.ensures.bytes.0 (omega (arith, c.in-Ok.ensures.bound.1)),
)

pub returns-in-Err-clause-untouched : goal.returns-in-Err-clause-untouched
returns-in-Err-clause-untouched g c = c.loop.invariant.1

pub returns-in-Err-clause-accounts : goal.returns-in-Err-clause-accounts
returns-in-Err-clause-accounts g c = c.loop.invariant.2

pub returns-clause-untouched : goal.returns-clause-untouched
returns-clause-untouched g c = c.loop.invariant.1

pub returns-clause-accounts : goal.returns-clause-accounts
returns-clause-accounts g c = c.loop.invariant.2

pub returns-in-Err-feed-clause-untouched : goal.returns-in-Err-feed-clause-untouched
returns-in-Err-feed-clause-untouched g c = untouched_then c.loop.invariant.1 c.in-Err-feed.ensures.untouched

pub returns-in-Err-feed-clause-accounts : goal.returns-in-Err-feed-clause-accounts
returns-in-Err-feed-clause-accounts g c = breaks_then c.loop.invariant.1 c.in-Err-feed.ensures.untouched c.loop.invariant.2 c.in-Err-feed.ensures.accounts

pub returns-in-Ok-eq0-clause-untouched : goal.returns-in-Ok-eq0-clause-untouched
returns-in-Ok-eq0-clause-untouched g c = untouched_then c.loop.invariant.1 c.finish.ensures.untouched

pub returns-in-Ok-eq0-clause-accounts : goal.returns-in-Ok-eq0-clause-accounts
returns-in-Ok-eq0-clause-accounts g c = breaks_then c.loop.invariant.1 c.finish.ensures.untouched c.loop.invariant.2 c.finish.ensures.accounts

pub returns-in-Err-feed-clause-broken : goal.returns-in-Err-feed-clause-broken
returns-in-Err-feed-clause-broken g c = tt

pub returns-clause-broken : goal.returns-clause-broken
returns-clause-broken g c = tt

pub loop-init : goal.loop-init
loop-init g c = (
  Served-none c.new-pending.ensures,
  λ broke. refl,
  accounts_still c.args.store.now.session,
  inl (omega arith),
  refl,
  refl,
  omega arith,
  read_none (g.R.Source.left c.args.reader.now),
)
