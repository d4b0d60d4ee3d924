use Rattle.std.proofs.Common.{◌≡◌, ◌≤◌, ◌+◌}
use Rattle.std.specs.Prelude.{IsTrue}
use Rattle.org_disk.specs.CountsFailures.{CountsFailures}
use Rattle.org_serve.specs.Pipes.{HasRisenBy, HasRead}
use Rattle.org_serve.specs.Serving.{HasBroken, stores_while_honest}
use Rattle.org_serve.proofs.Inputs.{Served}
use Rattle.org_serve.proofs.serving.serve.Given as goal

-- what was read so far is served, with so many reads, each of which gave bytes, and no call of the
-- reader or the writer has failed
abbrev pub invariant-loop : goal.invariant-loop
invariant-loop g l =
    (Served l.initial.store.session.group (stores_while_honest g.D.Disk) l.initial.store l.store
    (g.R.Source.left l.initial.reader) (g.R.Source.left l.reader) (g.W.Sink.written l.initial.writer) (g.W.Sink.written l.writer) l.pending)
    × (IsTrue l.initial.store.session.broken → l.store ≡ l.initial.store)
    × CountsFailures g.D.Disk l.initial.store.disk l.store.disk (HasBroken l.initial.store.session l.store.session)
    × HasRisenBy l.counter (g.R.Source.reads l.initial.reader) (g.R.Source.reads l.reader)
    × (g.R.Source.failures l.reader ≡ g.R.Source.failures l.initial.reader)
    × (g.W.Sink.failures l.writer ≡ g.W.Sink.failures l.initial.writer)
    × (g.R.Source.reads l.reader ≤ g.R.Source.reads l.initial.reader + l.counter)
    × HasRead l.counter (g.R.Source.left l.initial.reader) (g.R.Source.left l.reader)
