use Rattle.std.proofs.Common.{arith}
use Rattle.std.proofs.lemmas.Grind.{common_steps}
use Rattle.org_stamp.proofs.part.read_delay.Goals as goal

pub returns-in-45 : goal.returns-in-45
returns-in-45 c = grind (arith, common_steps)

pub returns-in-45-2 : goal.returns-in-45-2
returns-in-45-2 c = grind (arith, common_steps)

pub returns-in_default : goal.returns-in_default
returns-in_default c = grind (arith, common_steps)
