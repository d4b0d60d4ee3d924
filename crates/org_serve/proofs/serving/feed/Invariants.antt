use Rattle.std.proofs.Common.{◌≡◌, ◌≤◌, ◌++◌, List, ℕ, [], length}
use Rattle.std.specs.Prelude.{IsTrue}
use Rattle.org_disk.specs.CountsFailures.{CountsFailures}
use Rattle.org_serve.specs.Lines.{cut, Stands}
use Rattle.org_serve.specs.Serving.{HasBroken, stores_while_honest}
use Rattle.org_serve.proofs.Feeding.{Fed}
use Rattle.org_serve.proofs.serving.feed.Given as goal

-- the lines so far are answered, and no write has failed
abbrev pub invariant-loop-line : goal.invariant-loop-line
invariant-loop-line g l =
    ((part : List ℕ) → (cut part).lines ≡ [] → Stands l.initial.pending part
    → Fed l.group (stores_while_honest g.D.Disk) l.initial.store (part ++ l.piece) l.rest l.store
    (g.W.Sink.written l.initial.writer) (g.W.Sink.written l.writer) l.pending)
    × (IsTrue l.initial.store.session.broken → l.store ≡ l.initial.store)
    × CountsFailures g.D.Disk l.initial.store.disk l.store.disk (HasBroken l.initial.store.session l.store.session)
    × (g.W.Sink.failures l.writer ≡ g.W.Sink.failures l.initial.writer)
    × (length l.rest ≤ length l.piece)

abbrev pub decreases-loop-line : goal.decreases-loop-line
decreases-loop-line g l = length l.rest
