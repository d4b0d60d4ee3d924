use Rattle.std.proofs.Common.{arith}
use Rattle.org_journal.proofs.Journal.{found_begins, begins_found, found_record, found_writable}
use Rattle.org_journal.proofs.decoding.decode.Goals as goal

pub returns-clause-found : goal.returns-clause-found
returns-clause-found c = found_begins c.args.bytes.now c.record_of.result (λ i. omega (arith, c.type_inv.bytes i)) c.record_of.ensures

pub returns-clause-only : goal.returns-clause-only
returns-clause-only c = begins_found c.args.bytes.now c.record_of.result c.record_of.ensures

pub returns-clause-record : goal.returns-clause-record
returns-clause-record c = found_record c.args.bytes.now c.record_of.result (returns-clause-found c)

pub returns-clause-writable : goal.returns-clause-writable
returns-clause-writable c = found_writable c.args.bytes.now c.record_of.result (returns-clause-found c)
