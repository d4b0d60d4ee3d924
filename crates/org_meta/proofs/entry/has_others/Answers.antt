use Rattle.std.proofs.Common.{ap, ◌∙◌, rules, tests}
use Rattle.std.specs.Prelude.{not}
use Rattle.std.proofs.lemmas.Iterator.{YieldsList-from_slice}
use Rattle.std.proofs.lemmas.Iterator.Search.{all_from_yields_List}
use Rattle.org_meta.specs.Planning.{is_closed}
use Rattle.org_meta.proofs.Entries.{not_all_closed}
use Rattle.org_meta.proofs.entry.has_others.Goals as goal

pub returns : goal.returns
returns c =
    let closed = all_from_yields_List is_closed _ _ c.all.result c.all.ensures.ran (YieldsList-from_slice c.args.entries.now cc) (λ x b q k. search (rules, tests)) in
    ap not closed ∙ not_all_closed c.args.entries.now
