use Rattle.std.proofs.Common.{◌∙◌, ◌++◌, ap, drop, take}
use Rattle.org_headings.proofs.Edits.{spliced_items}
use Rattle.org_headings.proofs.heads.replace.Goals as goal

pub returns-clause-ok : goal.returns-clause-ok
returns-clause-ok g c =
    let i = c.in_ok-_old.ensures.items in
    let same = spliced_items i.0 c.args.fresh.items i.1 i.2.0 (i.2.1 ∙ c.args.fresh.ok.0) i.3 in
    i.4 ∙ ap (λ xs. take c.args.first c.args.items.now.items ++ (xs ++ drop c.args.last c.args.items.now.items)) same
