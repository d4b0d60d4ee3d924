use Rattle.org_journal.specs.Reading.{behind, entries_at}
use Rattle.org_journal.proofs.Loops.{entries_behind_next, entries_behind_stop, entries_behind_end}
use Rattle.org_journal.proofs.reading.behind_entries.Goals as goal

pub returns-in_err-after : goal.returns-in_err-after
returns-in_err-after c = rw c.from_residual.ensures (entries_behind_stop c.args.version c.args.count c.loop.counter c.loop.rest.now (behind (entries_at c.args.version c.args.count c.args.bytes.now)) c.loop-test.true c.in_err-after.ensures c.loop.invariant)

pub loop-preserved : goal.loop-preserved
loop-preserved c = entries_behind_next c.args.version c.args.count c.loop.counter c.loop.rest.now c.in_ok-after.field-0-0.now c.in_ok-after.after.now (behind (entries_at c.args.version c.args.count c.args.bytes.now)) c.loop-test.true c.in_ok-after.ensures c.loop.invariant

pub returns : goal.returns
returns c = entries_behind_end c.args.version c.args.count c.loop.counter c.loop.rest.now (behind (entries_at c.args.version c.args.count c.args.bytes.now)) c.loop-test.false c.loop.invariant
