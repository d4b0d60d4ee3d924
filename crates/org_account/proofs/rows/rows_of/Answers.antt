use Rattle.std.proofs.Common.{◌≡◌, ◌<◌, ◌∙◌, ℕ, List, length, get_or, subst, arith}
use Rattle.std.proofs.lemmas.Grind.{common_steps}
use Rattle.org_account.specs.Table.{AreFilled}
use Rattle.org_account.proofs.Filling.{rows_are}
use Rattle.org_account.proofs.rows.rows_of.Goals as goal

pub returns-in-None-clause-ok : goal.returns-in-None-clause-ok
returns-in-None-clause-ok c =
    let long : length c.in_ok-rows.rows.items ≡ c.args.count = grind (arith, common_steps) in
    let there : (i : ℕ) → i < length c.fill.new.rows.items → get_or c.fill.new.rows.items i 0 < length c.args.table.now =
    subst (λ (xs : List ℕ). (i : ℕ) → i < length xs → get_or xs i 0 < length c.args.table.now) c.deref.ensures.value c.in-None.ensures.none in
    rows_are c.args.folder c.args.table.now c.args.count c.fill.new.rows.items (c.in_default.ensures.length ∙ long)
    (subst (λ (n : ℕ). AreFilled c.args.folder c.args.table.now n (length c.args.table.now) c.fill.new.rows.items) long c.in_default.ensures.filled) there
