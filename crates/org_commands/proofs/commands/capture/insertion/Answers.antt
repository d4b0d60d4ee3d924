use Rattle.org_commands.proofs.commands.capture.insertion.Goals as goal

pub returns : goal.returns
returns c node is = rw (c.outline_of-outline.ensures.0, c.outline_of-outline.ensures.1) at c.capture.ensures node is
