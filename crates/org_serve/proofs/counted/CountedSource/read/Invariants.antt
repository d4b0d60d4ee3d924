use Rattle.std.proofs.Common.{◌≡◌}
use Rattle.std.specs.Io.KnownBytes.{Keeps}
use Rattle.org_serve.proofs.counted.CountedSource.read.Given as goal

-- nothing was read yet, and nothing counted since the first attempt
abbrev pub invariant-loop : goal.invariant-loop
invariant-loop g l =
    Keeps (g.T.Read.remaining l.initial.self.inner) (g.T.Read.remaining l.self.inner)
    × (l.self.reads ≡ l.initial.self.reads) × (l.self.failures ≡ l.initial.self.failures)
