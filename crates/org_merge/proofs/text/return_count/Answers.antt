use Rattle.std.proofs.Common.{arith}
use Rattle.std.proofs.lemmas.Grind.{common_steps}
use Rattle.std.proofs.lemmas.List.{length-take-le, take_all}
use Rattle.std.proofs.lemmas.List.Sums.{suffix_len-le-length, suffix_len-take_yes, suffix_len-take_no}
use Rattle.org_merge.proofs.text.return_count.Goals as goal

pub loop-start-init : goal.loop-start-init
loop-start-init c = grind (arith, common_steps, take_all)

pub loop-start-preserved : goal.loop-start-preserved
loop-start-preserved c = grind (arith, common_steps, suffix_len-take_yes)

pub returns-clause-count : goal.returns-clause-count
returns-clause-count c = grind (arith, common_steps, suffix_len-take_no, suffix_len-le-length, length-take-le)
