use Rattle.org_outline.proofs.Nodes.{subtree_at}
use Rattle.org_outline.proofs.outline.Outline.subtree.Goals as goal

pub returns : goal.returns
returns c = subtree_at _ _ _ _ _ _ c.text.ensures.value c.text.ensures.terminated c.requires c.at.ensures.heading c.at.ensures.later c.next_start.ensures
