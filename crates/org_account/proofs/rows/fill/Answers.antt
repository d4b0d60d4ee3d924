use Rattle.std.proofs.Common.{◌≡◌, ◌<◌, ◌≤◌, ◌+◌, ◌∙◌, ℕ, List, length, get_or, ap, sym, subst, arith}
use Rattle.std.proofs.Math.ListN.{set, length-set}
use Rattle.std.proofs.lemmas.Grind.{common_steps}
use Rattle.org_account.specs.Table.{AreFilled}
use Rattle.org_account.proofs.Filling.{row_over, row_more}
use Rattle.org_account.proofs.rows.fill.Goals as goal
use Rattle.org_account.proofs.rows.fill.Goals.{in-Some+else-unit-len+else-index-none, in_default}

pub loop-k-preserved : goal.loop-k-preserved
loop-k-preserved c =
    let rows : List ℕ = c.loop-k.rows.items in
    let count : ℕ = length c.args.rows.now.items in
    elim c.match-named.branch [
      | in-Some+else-unit-len+else-index-none w ↦
          let u : ℕ = w.in-Some.unit in
          let is : c.match-named.rows.items ≡ set rows u c.loop-k.k = ap (λ v. v.items) w.rows-is in
          let within : u < length rows = grind (arith, common_steps) in
          let fresh : length c.args.table.now ≤ get_or rows u 0 = grind (arith, common_steps) in
          record {
            filled = subst (λ (xs : List ℕ). AreFilled c.args.folder c.args.table.now count (c.loop-k.k + 1) xs) (sym is)
                (row_more c.args.folder c.args.table.now count c.loop-k.k u rows _ _ c.loop-k-test.true c.named.ensures w.in-Some.is c.loop-k.invariant.long (omega (arith, within, c.loop-k.invariant.long)) fresh c.loop-k.invariant.filled);
            long = ap length is ∙ length-set rows u c.loop-k.k ∙ c.loop-k.invariant.long;
          }
      | in_default w ↦
          let is : c.match-named.rows.items ≡ rows = ap (λ v. v.items) w.rows-is in
          record {
            filled = subst (λ (xs : List ℕ). AreFilled c.args.folder c.args.table.now count (c.loop-k.k + 1) xs) (sym is)
                (row_over c.args.folder c.args.table.now count c.loop-k.k rows _ _ c.loop-k-test.true c.named.ensures w.in_default.is c.loop-k.invariant.filled);
            long = ap length is ∙ c.loop-k.invariant.long;
          }
    ]
