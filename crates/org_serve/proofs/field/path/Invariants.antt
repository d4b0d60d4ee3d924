use Rattle.std.proofs.Common.{◌≡◌, Some, map}
use Rattle.org_serve.specs.Grammar.{steps_in}
use Rattle.org_serve.proofs.field.path.Given as goal

abbrev pub invariant-loop-part : goal.invariant-loop-part
invariant-loop-part l = steps_in (map (λ x. x.now) l.yielded) ≡ Some l.steps.items
