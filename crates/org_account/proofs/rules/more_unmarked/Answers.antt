use Rattle.std.proofs.Common.{sym, ◌∙◌}
use Rattle.org_account.proofs.Merging.{marked_more}
use Rattle.org_account.proofs.rules.more_unmarked.Goals as goal

pub returns-then-ends_with : goal.returns-then-ends_with
returns-then-ends_with c = marked_more c.args.line.now c.in-Some.plain.now c.in-Some.ensures.cases.0 c.in-Some.ensures.cases.1 (sym c.ends_with.ensures.value ∙ c.if-ends_with.true)
