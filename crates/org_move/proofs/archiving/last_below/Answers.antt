use Rattle.org_move.proofs.Putting.{end_of_text}
use Rattle.org_move.proofs.archiving.last_below.Goals as goal

pub returns-in-None-clause-place : goal.returns-in-None-clause-place
returns-in-None-clause-place c = λ to node. end_of_text to node c.args.outline.now.text c.text-end.result.now c.args.up c.in-None.is c.text-end.ensures.value c.text-end.ensures.terminated
