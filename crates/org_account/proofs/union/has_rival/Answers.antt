use Rattle.std.proofs.Common.{refl, sym, ◌∙◌}
use Rattle.org_account.proofs.EachLine.{copies_rest, copies_found}
use Rattle.org_account.proofs.union.has_rival.Goals as goal

pub returns-then-are_rivals : goal.returns-then-are_rivals
returns-then-are_rivals c = λ yes.
    let other = c.first_line.result.0.now in
    (other, copies_found other c.loop-left.left.now other c.first_line.result.1.now _ c.first_line.ensures.lines refl (c.loop-left.invariant other), sym c.are_rivals.ensures ∙ c.if-are_rivals.true)

pub loop-left-preserved : goal.loop-left-preserved
loop-left-preserved c = λ other. copies_rest other c.loop-left.left.now _ c.first_line.result.1.now _ c.first_line.ensures.lines (c.loop-left.invariant other)
