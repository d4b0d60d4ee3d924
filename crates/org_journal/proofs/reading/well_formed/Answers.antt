use Rattle.std.proofs.Common.{arith}
use Rattle.org_journal.proofs.Journal.{says_record}
use Rattle.org_journal.proofs.reading.well_formed.Goals as goal

pub returns-clause-record : goal.returns-clause-record
returns-clause-record c = says_record c.args.bytes.now c.is_journal.result (λ i. omega (arith, c.type_inv.bytes i)) c.is_journal.ensures
