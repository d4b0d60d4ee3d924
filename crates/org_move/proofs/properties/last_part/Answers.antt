use Rattle.std.proofs.Common.{◌∙◌}
use Rattle.org_move.proofs.Ways.{last_part_after, last_part_alone}
use Rattle.org_move.proofs.properties.last_part.Goals as goal

pub returns-in-Some : goal.returns-in-Some
returns-in-Some c = c.split_at.ensures.back ∙ last_part_after c.args.name.now c.in-Some.slash c.in-Some.ensures

pub returns-in-None : goal.returns-in-None
returns-in-None c = last_part_alone c.args.name.now c.in-None.ensures
