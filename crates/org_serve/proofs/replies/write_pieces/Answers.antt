use Rattle.std.proofs.Common.{ℕ, refl, ◌∙◌, subst}
use Rattle.org_disk.specs.Disk.{IsCounted}
use Rattle.org_serve.proofs.Joins.{Appends-none, on_err, passed_never}
use Rattle.org_serve.proofs.Pieces.{wrote_more, wrote_all, wrote_some}
use Rattle.org_serve.proofs.replies.write_pieces.Goals as goal

pub loop-piece-init : goal.loop-piece-init
loop-piece-init g c = (Appends-none (g.W.Sink.written c.args.writer.now), refl)

pub loop-piece-preserved : goal.loop-piece-preserved
loop-piece-preserved g c = (
  wrote_more (g.W.Sink.written c.args.writer.now) (g.W.Sink.written c.loop-piece.writer) (g.W.Sink.written c.write.new.self)
      c.args.pieces.now c.loop-piece.piece-index _ c.loop-piece-test.true c.loop-piece.invariant.0 c.in_ok-write.ensures.bytes,
  c.in_ok-write.ensures.ok ∙ c.loop-piece.invariant.1,
)

pub returns-in_err-write : goal.returns-in_err-write
returns-in_err-write g c = record {
  ok = passed_never _ _ c.from_residual.result c.from_residual.ensures.1;
  part = on_err c.from_residual.result
      (wrote_some (g.W.Sink.written c.args.writer.now) (g.W.Sink.written c.loop-piece.writer) (g.W.Sink.written c.write.new.self)
      c.args.pieces.now c.loop-piece.piece-index _ c.loop-piece-test.true c.loop-piece.invariant.0 c.in_err-write.ensures.part);
  same = passed_never _ _ c.from_residual.result c.from_residual.ensures.1;
  counted = on_err c.from_residual.result (subst (λ (n : ℕ). IsCounted n (g.W.Sink.failures c.write.new.self)) c.loop-piece.invariant.1 c.in_err-write.ensures.err);
}

pub returns : goal.returns
returns g c = record {
  ok = wrote_all (g.W.Sink.written c.args.writer.now) (g.W.Sink.written c.loop-piece.writer) c.args.pieces.now c.loop-piece.piece-index c.loop-piece-test.false c.loop-piece.invariant.0;
  part = tt;
  same = c.loop-piece.invariant.1;
  counted = tt;
}
