use Rattle.std.proofs.lemmas.Result.{err_from_is_err_and}
use Rattle.org_journal.specs.Reading.{entry_at, entries_at}
use Rattle.org_journal.proofs.Loops.{entries_next, entries_stop, entries_end, front_next, front_stop, front_end, fault_of_part}
use Rattle.org_journal.proofs.decoding.entries_of.Goals as goal

pub returns-in_err-entry : goal.returns-in_err-entry
returns-in_err-entry c =
    let p = err_from_is_err_and c.from_residual.result c.from_residual.ensures.1 in
    rw (p.1, p.2) (fault_of_part c.in_err-entry.field-0.0 (entry_at c.args.version c.loop.rest.now) (entries_at c.args.version c.args.count c.args.bytes.now)
    (λ none. front_stop c.loop.entries.items _ _ (entries_stop c.args.version c.args.count c.loop.counter c.loop.rest.now c.loop-test.true none) c.loop.invariant) c.in_err-entry.ensures)

pub loop-preserved : goal.loop-preserved
loop-preserved c =
    rw c.in_ok-push.ensures.items (front_next c.loop.entries.items c.in_ok-entry.entry _ _ _ (entries_next c.args.version c.args.count c.loop.counter c.loop.rest.now c.in_ok-entry.entry c.in_ok-entry.after.now c.loop-test.true c.in_ok-entry.ensures) c.loop.invariant)

pub returns : goal.returns
returns c =
    front_end c.loop.entries.items _ _ c.loop.rest.now (entries_end c.args.version c.args.count c.loop.counter c.loop.rest.now c.loop-test.false) c.loop.invariant
