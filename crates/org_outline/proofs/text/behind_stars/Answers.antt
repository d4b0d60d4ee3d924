use Rattle.org_outline.proofs.Rests.{rest_found, rest_none, line_found, line_whole}
use Rattle.org_outline.proofs.text.behind_stars.Goals as goal

pub returns-in-Some-clause-rest : goal.returns-in-Some-clause-rest
returns-in-Some-clause-rest c = rest_found c.args.text.now _ _ _ _ _ _ c.split_at.ensures.back (record { first = c.memchr.ensures }) c.in-Some.is c.split_at-in-Some.ensures.front

pub returns-in-Some-clause-line : goal.returns-in-Some-clause-line
returns-in-Some-clause-line c = (line_found _ _ _ _ (record { first = c.memchr.ensures }) c.in-Some.is c.split_at-in-Some.ensures.front).0

pub returns-in-None-clause-rest : goal.returns-in-None-clause-rest
returns-in-None-clause-rest c = λ rest more p split. absurd (rest_none c.args.text.now _ _ _ _ c.split_at.ensures.back (record { first = c.memchr.ensures }) c.in-None.is rest more p split)

pub returns-in-None-clause-line : goal.returns-in-None-clause-line
returns-in-None-clause-line c = line_whole _ _ (record { first = c.memchr.ensures }) c.in-None.is
