use Rattle.org_capture.proofs.OneByOne.{stands_alone, one_by_one}
use Rattle.org_capture.proofs.laws.dates_one_by_one.Goals as goal

pub returns-clause-alone : goal.returns-clause-alone
returns-clause-alone c = stands_alone

pub returns-clause-chain : goal.returns-clause-chain
returns-clause-chain c = one_by_one
