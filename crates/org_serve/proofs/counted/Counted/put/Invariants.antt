use Rattle.std.proofs.Common.{◌≡◌}
use Rattle.std.specs.Io.KnownBytes.{Keeps}
use Rattle.org_serve.proofs.counted.Counted.put.Given as goal

-- nothing was written yet, and nothing counted
abbrev pub invariant-loop : goal.invariant-loop
invariant-loop g l =
    Keeps (g.T.Write.contents l.initial.self.inner) (g.T.Write.contents l.self.inner) × (l.self.failures ≡ l.initial.self.failures)
