use Rattle.org_outline.proofs.Nodes.{level_room}
use Rattle.org_outline.proofs.outline.Outline.below.Goals as goal

pub returns-in-Some-clause-level : goal.returns-in-Some-clause-level
returns-in-Some-clause-level c = level_room _ _ _ _ _ c.headings-headings.ensures.terminated c.node.view_is c.headings-headings.ensures.value (c.requires _ c.in-Some.is)
