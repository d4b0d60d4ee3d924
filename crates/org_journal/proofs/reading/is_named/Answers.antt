use Rattle.std.proofs.Common.{sym, ◌∙◌}
use Rattle.org_journal.specs.Reading.{entries_at}
use Rattle.org_journal.proofs.Names.{named_in, named_agrees, named_next, named_found, named_stop, named_end}
use Rattle.org_journal.proofs.reading.is_named.Goals as goal

pub returns-in_default : goal.returns-in_default
returns-in_default c =
    let all = entries_at c.args.version c.args.count c.args.bytes.now in
    named_agrees c.args.name.now all _ (named_stop c.args.version c.args.count c.loop.counter c.loop.rest.now c.args.name.now (named_in c.args.name.now all) c.loop-test.true c.in_default.ensures c.loop.invariant)

pub returns-then-eq : goal.returns-then-eq
returns-then-eq c =
    let all = entries_at c.args.version c.args.count c.args.bytes.now in
    named_agrees c.args.name.now all _ (named_found c.args.version c.args.count c.loop.counter c.loop.rest.now c.args.name.now c.in-Some.other.now c.in-Some.after.now (named_in c.args.name.now all) c.loop-test.true c.in-Some.ensures (sym c.eq.ensures ∙ c.if-eq.true) c.loop.invariant)

pub loop-preserved : goal.loop-preserved
loop-preserved c =
    let all = entries_at c.args.version c.args.count c.args.bytes.now in
    named_next c.args.version c.args.count c.loop.counter c.loop.rest.now c.args.name.now c.in-Some.other.now c.in-Some.after.now (named_in c.args.name.now all) c.loop-test.true c.in-Some.ensures (sym c.eq.ensures ∙ c.if-eq.false) c.loop.invariant

pub returns : goal.returns
returns c =
    let all = entries_at c.args.version c.args.count c.args.bytes.now in
    named_agrees c.args.name.now all _ (named_end c.args.version c.args.count c.loop.counter c.loop.rest.now c.args.name.now (named_in c.args.name.now all) c.loop-test.false c.loop.invariant)
