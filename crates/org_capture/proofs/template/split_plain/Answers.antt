use Rattle.org_capture.proofs.Fillings.{split_there}
use Rattle.org_capture.proofs.template.split_plain.Goals as goal

pub returns-clause-plain : goal.returns-clause-plain
returns-clause-plain c = split_there c.args.template.now _ _ _ _ c.memchr.ensures c.unwrap_or-end.ensures c.split_at.ensures.front c.split_at.ensures.back
