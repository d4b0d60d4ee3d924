use Rattle.org_texts.proofs.Looking.{held_over-terminated}
use Rattle.org_texts.proofs.Standing.{StandOver-terminated}
use Rattle.org_texts.proofs.laws.ready_texts_are_terminated.Goals as goal

pub returns-clause-over : goal.returns-clause-over
returns-clause-over c = held_over-terminated

pub returns-clause-stand : goal.returns-clause-stand
returns-clause-stand c = StandOver-terminated
