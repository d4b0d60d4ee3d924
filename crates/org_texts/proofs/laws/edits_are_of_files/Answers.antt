use Rattle.org_texts.proofs.Looking.{held_over-edits}
use Rattle.org_texts.proofs.Standing.{StandOver-edits}
use Rattle.org_texts.proofs.laws.edits_are_of_files.Goals as goal

pub returns-clause-over : goal.returns-clause-over
returns-clause-over c = held_over-edits

pub returns-clause-stand : goal.returns-clause-stand
returns-clause-stand c = StandOver-edits
