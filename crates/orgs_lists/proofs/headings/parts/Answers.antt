use Rattle.orgs_lists.proofs.Read.{parts_in}
use Rattle.orgs_lists.proofs.headings.parts.Goals as goal

pub returns : goal.returns
returns c = parts_in c.outline-outline.result.now c.args.entries.now c.node.result c.args.index c.parts.result c.outline-outline.ensures c.node.ensures c.parts.ensures
