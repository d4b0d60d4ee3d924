use Rattle.std.proofs.Common.{refl, ℕ, Option, subst}
use Rattle.memchr.specs.Find.{FindsNeedle}
use Rattle.org_account.proofs.EachLine.{copies_rest, copies_found}
use Rattle.org_account.proofs.lines.is_told_of.Goals as goal

pub returns-in-Some : goal.returns-in-Some
returns-in-Some c = λ yes.
    let first = c.first_line.result.0.now in
    let occurs = (subst (λ (r : Option ℕ). FindsNeedle first c.args.bytes.now 0 r) c.in-Some.is c.find.ensures).1 in
    (first, (_, copies_found first c.loop-left.left.now first c.first_line.result.1.now _ c.first_line.ensures.lines refl (c.loop-left.invariant first), occurs))

pub loop-left-preserved : goal.loop-left-preserved
loop-left-preserved c = λ line. copies_rest line c.loop-left.left.now _ c.first_line.result.1.now _ c.first_line.ensures.lines (c.loop-left.invariant line)
