use Rattle.std.proofs.Common.{arith}
use Rattle.std.proofs.lemmas.Grind.{common_steps}
use Rattle.org_stamp.proofs.stamp.Stamp.scan.Goals as goal

pub returns-in-60 : goal.returns-in-60
returns-in-60 c = grind (arith, common_steps)

pub returns-in-91 : goal.returns-in-91
returns-in-91 c = grind (arith, common_steps)

pub returns-in_default : goal.returns-in_default
returns-in_default c = grind (arith, common_steps)
