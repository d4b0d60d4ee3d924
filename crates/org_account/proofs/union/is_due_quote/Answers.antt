use Rattle.std.proofs.Common.{◌≡◌, ◌≤◌, ◌-◌, ℕ, List, subst, arith}
use Rattle.std.proofs.lemmas.Grind.{common_steps}
use Rattle.std.proofs.lemmas.Bool.Decides.{nat_tests}
use Rattle.org_account.specs.Text.{most_of, copies, IsToldLine}
use Rattle.org_account.proofs.EachLine.{quote_of}
use Rattle.org_account.proofs.union.is_due_quote.Goals as goal

pub returns-else-not-is_told_line : goal.returns-else-not-is_told_line
returns-else-not-is_told_line c = λ yes.
    let fits : c.args.more ≤ most_of c.args.texts.now c.in-Some.held.now - copies c.in-Some.held.now c.args.texts.now.merged = grind (arith, common_steps, nat_tests) in
    let told : c.texts.inside.told.now ≡ c.args.texts.now.told = grind (arith, common_steps, c.texts.view_is) in
    (c.in-Some.held.now, quote_of c.args.line.now c.in-Some.held.now c.in-Some.ensures.cases.0 c.in-Some.ensures.cases.1, fits, subst (λ (x : List ℕ). IsToldLine x c.in-Some.held.now) told (c.is_told_line.ensures c.if-not-is_told_line.false))
