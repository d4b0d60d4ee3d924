use Rattle.std.proofs.Common.{sym, arith}
use Rattle.org_account.specs.Text.{quoted}
use Rattle.org_account.proofs.EachLine.{count_fits, copies_few}
use Rattle.org_account.proofs.lines.quotes.Goals as goal

pub prove-unreachable-requires : goal.prove-unreachable-requires
prove-unreachable-requires c =
    let fits = count_fits (quoted c.args.line.now) c.loop-left.left.now _ c.first_line.result.1.now c.args.text.now c.loop-left.count c.first_line.ensures.lines (sym c.if-is_quote_of.ensures) c.loop-left.invariant in
    omega (arith, fits)

pub returns-clause-few : goal.returns-clause-few
returns-clause-few c = omega (arith, c.loop-left.invariant, copies_few (quoted c.args.line.now) c.args.text.now)
