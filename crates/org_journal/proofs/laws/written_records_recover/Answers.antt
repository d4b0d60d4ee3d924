use Rattle.org_journal.proofs.ReadBack.{open_recovered}
use Rattle.org_journal.proofs.laws.written_records_recover.Goals as goal

pub returns-clause-opened : goal.returns-clause-opened
returns-clause-opened c = open_recovered
