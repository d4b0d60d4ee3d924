use Rattle.std.proofs.Common.{arith}
use Rattle.std.proofs.lemmas.Grind.{common_steps}
use Rattle.org_move.proofs.subtree.filled.Goals as goal

pub shift-requires-clause-node : goal.shift-requires-clause-node
shift-requires-clause-node c = grind (arith, common_steps)

pub shift-requires-clause-low : goal.shift-requires-clause-low
shift-requires-clause-low c = grind (arith, common_steps)

pub shift-requires-clause-high : goal.shift-requires-clause-high
shift-requires-clause-high c = grind (arith, common_steps)

pub returns-in-Some : goal.returns-in-Some
returns-in-Some c = grind (arith, common_steps)

pub level-requires : goal.level-requires
level-requires c = grind (arith, common_steps)

pub shift-requires-then-level-eq0-clause-node : goal.shift-requires-then-level-eq0-clause-node
shift-requires-then-level-eq0-clause-node c = grind (arith, common_steps)

pub shift-requires-then-level-eq0-clause-low : goal.shift-requires-then-level-eq0-clause-low
shift-requires-then-level-eq0-clause-low c = grind (arith, common_steps)

pub shift-requires-then-level-eq0-clause-high : goal.shift-requires-then-level-eq0-clause-high
shift-requires-then-level-eq0-clause-high c = grind (arith, common_steps)

pub returns-then-level-eq0 : goal.returns-then-level-eq0
returns-then-level-eq0 c = grind (arith, common_steps)

pub level-requires-2 : goal.level-requires-2
level-requires-2 c = grind (arith, common_steps)

pub overflow_add-level-2 : goal.overflow_add-level-2
overflow_add-level-2 c = omega arith

pub shift-requires-2-clause-node : goal.shift-requires-2-clause-node
shift-requires-2-clause-node c = grind (arith, common_steps)

pub shift-requires-2-clause-low : goal.shift-requires-2-clause-low
shift-requires-2-clause-low c = grind (arith, common_steps)

pub shift-requires-2-clause-high : goal.shift-requires-2-clause-high
shift-requires-2-clause-high c = grind (arith, common_steps)

pub returns-in_err-below : goal.returns-in_err-below
returns-in_err-below c = grind (arith, common_steps)

pub returns : goal.returns
returns c = grind (arith, common_steps)
