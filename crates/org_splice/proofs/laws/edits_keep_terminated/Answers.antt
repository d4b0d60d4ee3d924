use Rattle.org_splice.proofs.Places.{edited_terminated-inside, edited_terminated-lines}
use Rattle.org_splice.proofs.laws.edits_keep_terminated.Goals as goal

pub returns-clause-inside : goal.returns-clause-inside
returns-clause-inside c = edited_terminated-inside

pub returns-clause-lines : goal.returns-clause-lines
returns-clause-lines c = edited_terminated-lines
