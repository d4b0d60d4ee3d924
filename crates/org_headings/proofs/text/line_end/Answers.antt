use Rattle.std.proofs.Common.{inr}
use Rattle.org_splice.proofs.LineWalk.{line_end, line_none}
use Rattle.org_headings.proofs.Edits.{line_ends}
use Rattle.org_headings.proofs.text.line_end.Goals as goal

pub returns-in-Some-clause-line : goal.returns-in-Some-clause-line
returns-in-Some-clause-line c = line_end _ _ _ _ c.memchr.ensures c.in-Some.is

pub returns-in-Some-clause-ends : goal.returns-in-Some-clause-ends
returns-in-Some-clause-ends c = inr (line_ends _ _ _ _ c.memchr.ensures c.in-Some.is)

pub returns-in-None-clause-line : goal.returns-in-None-clause-line
returns-in-None-clause-line c = λ l more p split. absurd (line_none c.args.text.now c.args.start _ c.memchr.ensures c.in-None.is l more p split)
