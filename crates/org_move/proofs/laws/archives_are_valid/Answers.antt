use Rattle.org_move.proofs.Archives.{within_stays_valid, across_stays_valid}
use Rattle.org_move.proofs.Values.{place_line}
use Rattle.org_move.proofs.laws.archives_are_valid.Goals as goal

pub returns-clause-within : goal.returns-clause-within
returns-clause-within c = within_stays_valid

pub returns-clause-across : goal.returns-clause-across
returns-clause-across c = across_stays_valid

pub returns-clause-place : goal.returns-clause-place
returns-clause-place c = place_line
