use Rattle.org_journal.specs.Reading.{entries_at}
use Rattle.org_journal.proofs.Names.{differ_in, differ_agrees, differ_next, differ_found, differ_stop, differ_end}
use Rattle.org_journal.proofs.reading.names_differ.Goals as goal

pub returns-in_default : goal.returns-in_default
returns-in_default c =
    let all = entries_at c.args.version c.args.count c.args.bytes.now in
    differ_agrees all _ (differ_stop c.args.version c.args.count c.loop-i.i c.loop-i.rest.now (differ_in all) c.loop-i-test.true c.in_default.ensures c.loop-i.invariant)

pub returns-then-is_named : goal.returns-then-is_named
returns-then-is_named c =
    let all = entries_at c.args.version c.args.count c.args.bytes.now in
    differ_agrees all _ (differ_found c.args.version c.args.count c.loop-i.i c.loop-i.rest.now c.in-Some.name.now c.in-Some.after.now (differ_in all) c.loop-i-test.true c.in-Some.ensures c.if-is_named.ensures c.loop-i.invariant)

pub loop-i-preserved : goal.loop-i-preserved
loop-i-preserved c =
    let all = entries_at c.args.version c.args.count c.args.bytes.now in
    differ_next c.args.version c.args.count c.loop-i.i c.loop-i.rest.now c.in-Some.name.now c.in-Some.after.now (differ_in all) c.loop-i-test.true c.in-Some.ensures c.if-is_named.ensures c.loop-i.invariant

pub returns : goal.returns
returns c =
    let all = entries_at c.args.version c.args.count c.args.bytes.now in
    differ_agrees all _ (differ_end c.args.version c.args.count c.loop-i.i c.loop-i.rest.now (differ_in all) c.loop-i-test.false c.loop-i.invariant)
