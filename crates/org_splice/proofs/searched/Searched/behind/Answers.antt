use Rattle.std.proofs.Common.{◌≡◌, ℕ, sym, subst, arith}
use Rattle.org_splice.specs.declared.searched.Searched.{Searched}
use Rattle.org_splice.specs.declared.searched.Searched.TheVariants.{Nowhere, Ends}
use Rattle.org_splice.proofs.Searches.{Fewer, Stands, fewer_none, fewer_ends, stays_known}
use Rattle.org_splice.proofs.searched.Searched.behind.Goals as goal

-- what was known, by its variant
knowing : (old known : Searched) (front back : ℕ) → old ≡ known → Fewer known front back → Fewer old front back
knowing old known front back is fewer = subst (λ (s : Searched). Fewer s front back) (sym is) fewer

pub returns-in-Nowhere-clause-edited : goal.returns-in-Nowhere-clause-edited
returns-in-Nowhere-clause-edited c =
    let e = c.args.edit.now in
    let front : ℕ = e.at in
    let back : ℕ = c.saturating_sub-tail.result in
    let stands : Stands e c.args.size front back = record {
      low = omega arith;
      high = λ n long within. omega (arith, long, within, c.ranges.size.fits, c.saturating_add-end.ensures, c.saturating_sub-tail.ensures);
    } in
    stays_known c.args.self front back c.args.size e (knowing c.args.self Nowhere front back c.in-Nowhere.is (fewer_none front back)) stands

pub returns-in-Ends-clause-edited : goal.returns-in-Ends-clause-edited
returns-in-Ends-clause-edited c =
    let e = c.args.edit.now in
    let front : ℕ = c.min.result in
    let back : ℕ = c.min-in-Ends.result in
    let stands : Stands e c.args.size front back = record {
      low = omega (arith, c.min.ensures);
      high = λ n long within. omega (arith, long, within, c.ranges.size.fits, c.saturating_add-end.ensures, c.saturating_sub-tail.ensures, c.min-in-Ends.ensures);
    } in
    let fewer = knowing c.args.self (Ends c.in-Ends.front c.in-Ends.back) front back c.in-Ends.is (fewer_ends c.in-Ends.front c.in-Ends.back front back (omega (arith, c.min.ensures)) (omega (arith, c.min-in-Ends.ensures))) in
    stays_known c.args.self front back c.args.size e fewer stands
