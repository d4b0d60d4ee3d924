use Rattle.org_capture.proofs.Fillings.{alone, behind, kept}
use Rattle.org_capture.proofs.laws.fillings_stay.Goals as goal

pub returns-clause-alone : goal.returns-clause-alone
returns-clause-alone c = alone

pub returns-clause-behind : goal.returns-clause-behind
returns-clause-behind c = behind

pub returns-clause-kept : goal.returns-clause-kept
returns-clause-kept c = kept
