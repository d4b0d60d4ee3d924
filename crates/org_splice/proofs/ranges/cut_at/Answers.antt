use Rattle.std.proofs.Common.{append_assoc, arith}
use Rattle.std.proofs.lemmas.Grind.{common_steps}
use Rattle.std.proofs.lemmas.List.{drop_more}
use Rattle.org_splice.specs.Ranges.{cut_at}
use Rattle.org_splice.proofs.Joining.{cut_kept, cut_left_out}
use Rattle.org_splice.proofs.ranges.cut_at.Goals as goal

pub loop-range-preserved : goal.loop-range-preserved
loop-range-preserved c = grind (arith, common_steps, cut_at, drop_more, append_assoc, cut_kept, cut_left_out)
