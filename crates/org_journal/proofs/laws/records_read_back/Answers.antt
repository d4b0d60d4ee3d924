use Rattle.org_journal.proofs.ReadBack.{one_record, record_read}
use Rattle.org_journal.proofs.laws.records_read_back.Goals as goal

pub returns-clause-read : goal.returns-clause-read
returns-clause-read c = record_read

pub returns-clause-one : goal.returns-clause-one
returns-clause-one c = one_record
