use Rattle.std.proofs.Common.{sym}
use Rattle.org_outline.proofs.Nodes.{node_headings-are}
use Rattle.org_outline.proofs.laws.headings_are_nodes.Goals as goal

pub returns : goal.returns
returns c = λ t. sym (node_headings-are t)
