use Rattle.org_account.proofs.EachLine.{both_ended}
use Rattle.org_account.proofs.lines.ends_with_both.Goals as goal

pub returns-in-Some : goal.returns-in-Some
returns-in-Some c = both_ended c.args.line.now c.args.front.now c.args.back.now _ _ c.in-Some.ensures.cases.0 c.in-Some.ensures.cases.1 c.ends_with.ensures.value
