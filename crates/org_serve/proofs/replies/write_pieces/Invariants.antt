use Rattle.std.proofs.Common.{◌≡◌, take}
use Rattle.std.specs.Io.KnownBytes.{Appends}
use Rattle.org_serve.proofs.Pieces.{bytes_of}
use Rattle.org_serve.proofs.replies.write_pieces.Given as goal

abbrev pub invariant-loop-piece : goal.invariant-loop-piece
invariant-loop-piece g l =
    Appends (g.W.Sink.written l.fn.writer) (g.W.Sink.written l.writer) (bytes_of (take l.piece-index l.pieces))
    × (g.W.Sink.failures l.writer ≡ g.W.Sink.failures l.fn.writer)
