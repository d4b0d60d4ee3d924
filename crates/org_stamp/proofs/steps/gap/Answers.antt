use Rattle.std.proofs.Common.{inl, inr, refl, arith}
use Rattle.std.proofs.lemmas.Int.{ints}
use Rattle.org_stamp.proofs.steps.gap.Goals as goal

pub returns-then-to-from-clause-least : goal.returns-then-to-from-clause-least
returns-then-to-from-clause-least c = inl refl

pub returns-else-to-from-clause-reached : goal.returns-else-to-from-clause-reached
returns-else-to-from-clause-reached c = omega (arith, ints, c.requires.from, c.requires.to)

pub returns-else-to-from-clause-least : goal.returns-else-to-from-clause-least
returns-else-to-from-clause-least c = inr (omega (arith, ints, c.requires.from, c.requires.to))
