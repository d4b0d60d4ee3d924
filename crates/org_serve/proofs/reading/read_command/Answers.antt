use Rattle.std.proofs.Common.{refl, sym, subst}
use Rattle.org_serve.specs.Grammar.{Parses}
use Rattle.org_serve.proofs.Fields.{front_more, front_all, too_many}
use Rattle.org_serve.proofs.reading.read_command.Goals as goal

pub loop-i-preserved : goal.loop-i-preserved
loop-i-preserved c =
    front_more c.loop-i.fields c.loop-i.i c.in-Some.end c.loop-i.rest.now c.split_at.result.1.now c.args.line.now c.split_at.result.0
    c.loop-i-test.true c.loop-i.invariant c.in-Some.ensures c.split_at.ensures.front c.split_at.ensures.back

pub returns-in_default : goal.returns-in_default
returns-in_default c =
    let whole = front_all c.loop-i.fields c.loop-i.i c.loop-i.rest.now c.args.line.now c.loop-i.rest c.loop-i-test.true c.loop-i.invariant c.in_default.ensures refl in
    subst (Parses c.command.result) (sym whole) c.command.ensures

pub returns : goal.returns
returns c = too_many c.loop-i.fields c.loop-i.i c.loop-i.rest.now c.args.line.now c.loop-i-test.false c.loop-i.invariant
