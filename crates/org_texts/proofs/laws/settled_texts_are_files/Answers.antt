use Rattle.org_texts.proofs.Looking.{held_over-settled}
use Rattle.org_texts.proofs.Standing.{StandOver-settled}
use Rattle.org_texts.proofs.laws.settled_texts_are_files.Goals as goal

pub returns-clause-over : goal.returns-clause-over
returns-clause-over c = held_over-settled

pub returns-clause-stand : goal.returns-clause-stand
returns-clause-stand c = StandOver-settled
