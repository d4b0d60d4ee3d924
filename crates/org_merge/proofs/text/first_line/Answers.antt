use Rattle.org_account.proofs.EachLine.{last_line, next_found}
use Rattle.org_merge.proofs.text.first_line.Goals as goal

pub returns-in-None-clause-lines : goal.returns-in-None-clause-lines
returns-in-None-clause-lines c = last_line c.args.text.now _ c.requires c.memchr.ensures c.in-None.is

pub returns-in-Some-clause-lines : goal.returns-in-Some-clause-lines
returns-in-Some-clause-lines c = next_found c.args.text.now _ _ _ _ _ c.memchr.ensures c.in-Some.is c.split_at.ensures.front c.split_at.ensures.back c.split_at-in-Some.ensures.back
