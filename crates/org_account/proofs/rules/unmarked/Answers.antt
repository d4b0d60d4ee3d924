use Rattle.org_account.proofs.Merging.{marked_first}
use Rattle.org_account.proofs.rules.unmarked.Goals as goal

pub returns-in-Some : goal.returns-in-Some
returns-in-Some c = marked_first c.args.line.now c.in-Some.plain.now c.in-Some.ensures.cases.0 c.in-Some.ensures.cases.1
