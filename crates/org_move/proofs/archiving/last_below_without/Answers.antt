use Rattle.org_move.proofs.Putting.{at_the_new_end}
use Rattle.org_move.proofs.archiving.last_below_without.Goals as goal

pub returns-in-None : goal.returns-in-None
returns-in-None c = λ to node.
    at_the_new_end to node c.args.outline.now.text c.text.result.now c.args.taken c.args.up c.subtree-span.result c.in-None.is c.text.ensures.value c.text.ensures.terminated c.requires.taken c.subtree-span.ensures
