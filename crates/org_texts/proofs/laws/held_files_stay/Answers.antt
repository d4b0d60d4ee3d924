use Rattle.org_texts.proofs.Looking.{held_over-held}
use Rattle.org_texts.proofs.Standing.{StandOver-held}
use Rattle.org_texts.proofs.laws.held_files_stay.Goals as goal

pub returns-clause-over : goal.returns-clause-over
returns-clause-over c = held_over-held

pub returns-clause-stand : goal.returns-clause-stand
returns-clause-stand c = StandOver-held
