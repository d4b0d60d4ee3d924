use Rattle.std.proofs.Common.{arith}
use Rattle.std.proofs.lemmas.Grind.{common_steps}
use Rattle.org_stamp.proofs.part.read_repeater.Goals as goal

pub returns-in-46 : goal.returns-in-46
returns-in-46 c = grind (arith, common_steps)

pub returns-in-43 : goal.returns-in-43
returns-in-43 c = grind (arith, common_steps)

pub returns-in-43-2 : goal.returns-in-43-2
returns-in-43-2 c = grind (arith, common_steps)

pub returns-in_default : goal.returns-in_default
returns-in_default c = grind (arith, common_steps)

pub returns-in_default-2 : goal.returns-in_default-2
returns-in_default-2 c = grind (arith, common_steps)

pub returns-in_default-3 : goal.returns-in_default-3
returns-in_default-3 c = grind (arith, common_steps)

pub returns-in_default-4 : goal.returns-in_default-4
returns-in_default-4 c = grind (arith, common_steps)
