use Rattle.std.proofs.Common.{sym, arith}
use Rattle.org_account.proofs.EachLine.{count_fits, copies_few}
use Rattle.org_account.proofs.lines.copies.Goals as goal

pub prove-unreachable-requires : goal.prove-unreachable-requires
prove-unreachable-requires c =
    let fits = count_fits c.args.line.now c.loop-line.left.now _ c.first_line.result.1.now c.args.text.now c.loop-line.count c.first_line.ensures.lines (sym c.if-eq.ensures) c.loop-line.invariant in
    omega (arith, fits)

pub returns-clause-few : goal.returns-clause-few
returns-clause-few c = omega (arith, c.loop-line.invariant, copies_few c.args.line.now c.args.text.now)
