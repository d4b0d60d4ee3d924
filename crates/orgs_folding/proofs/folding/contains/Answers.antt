use Rattle.std.proofs.Common.{◌∙◌}
use Rattle.orgs_folding.proofs.Finding.{is_found}
use Rattle.orgs_folding.proofs.folding.contains.Goals as goal

pub returns : goal.returns
returns c = c.is_some.ensures ∙ is_found c.args.text.now c.args.part.now c.find.result c.find.ensures
