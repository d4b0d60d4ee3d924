use Rattle.std.proofs.Common.{◌≡◌, ◌++◌, List, ℕ, length}
use Rattle.std.specs.Io.KnownBytes.{Appends}
use Rattle.org_serve.proofs.counted.CountedSink.write.Given as goal

-- what stands before the rest is written, and nothing has failed
abbrev pub invariant-loop-rest : goal.invariant-loop-rest
invariant-loop-rest g l =
    ((done : List ℕ) × (l.bytes ≡ done ++ l.rest) × Appends (g.T.Write.contents l.initial.self.inner) (g.T.Write.contents l.self.inner) done)
    × (l.self.failures ≡ l.initial.self.failures)

abbrev pub decreases-loop-rest : goal.decreases-loop-rest
decreases-loop-rest g l = length l.rest
