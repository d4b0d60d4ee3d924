use Rattle.std.proofs.Common.{◌∙◌}
use Rattle.org_splice.proofs.Solid.{solid_run}
use Rattle.org_splice.proofs.blanks.solid_count.Goals as goal

pub returns-clause-count : goal.returns-clause-count
returns-clause-count c = c.unwrap_or.ensures ∙ solid_run c.args.line.now c.memchr2.result c.memchr2.ensures
