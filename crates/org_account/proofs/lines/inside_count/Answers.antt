use Rattle.std.proofs.Common.{◌∙◌}
use Rattle.org_account.proofs.Inside.{inside_run}
use Rattle.org_account.proofs.lines.inside_count.Goals as goal

pub returns-clause-count : goal.returns-clause-count
returns-clause-count c = c.unwrap_or.ensures ∙ inside_run c.args.body.now c.memchr.result c.memchr.ensures
