use Rattle.org_move.proofs.Kept.{within_valid, across_valid}
use Rattle.org_move.proofs.laws.refiles_are_valid.Goals as goal

pub returns-clause-within : goal.returns-clause-within
returns-clause-within c = within_valid

pub returns-clause-across : goal.returns-clause-across
returns-clause-across c = across_valid
