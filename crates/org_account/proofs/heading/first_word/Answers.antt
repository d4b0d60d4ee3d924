use Rattle.org_account.proofs.Tags.{split_none, split_first}
use Rattle.org_account.proofs.heading.first_word.Goals as goal

pub returns-in-None-clause-none : goal.returns-in-None-clause-none
returns-in-None-clause-none c = split_none c.args.tags.now _ c.memchr.ensures c.in-None.is

pub returns-in-Some-clause-some : goal.returns-in-Some-clause-some
returns-in-Some-clause-some c = split_first c.args.tags.now _ _ _ _ _ c.memchr.ensures c.in-Some.is c.split_at.ensures.front c.split_at.ensures.back c.split_at-in-Some.ensures.back
