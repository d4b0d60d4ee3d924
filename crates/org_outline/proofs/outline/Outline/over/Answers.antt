use Rattle.std.proofs.Common.{◌∙◌, sym}
use Rattle.org_outline.proofs.Nodes.{node_headings-are}
use Rattle.org_outline.proofs.outline.Outline.over.Goals as goal

pub invariant_of-result : goal.invariant_of-result
invariant_of-result c = (c.requires.terminated, c.requires.heads ∙ sym (node_headings-are c.args.text.now))
