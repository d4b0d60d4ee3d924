use Rattle.std.proofs.Common.{◌≡◌, ◌≤◌, ◌<◌, ℕ, length, sym, ◌∙◌, arith}
use Rattle.std.proofs.lemmas.Grind.{common_steps}
use Rattle.org_account.specs.declared.table.Row.{Row}
use Rattle.org_account.specs.Account.{AreOrdered}
use Rattle.org_account.proofs.EachRow.{each_next, each_all}
use Rattle.org_account.proofs.Ordering.{allowed, decided_at}
use Rattle.org_account.proofs.order.first_disordered.Goals as goal

pub loop-k-preserved : goal.loop-k-preserved
loop-k-preserved c =
    let table = c.args.table.now in
    let of = c.args.of.now in
    let k : ℕ = c.loop-k.k in
    let lt : k < length table = grind (arith, common_steps) in
    let base : c.of.inside.base ≡ of.base = grind (arith, common_steps, c.of.view_is) in
    let ours : c.of.inside.ours ≡ of.ours = grind (arith, common_steps, c.of.view_is) in
    let theirs : c.of.inside.theirs ≡ of.theirs = grind (arith, common_steps, c.of.view_is) in
    let merged : c.of.inside.merged ≡ of.merged = grind (arith, common_steps, c.of.view_is) in
    each_next (λ (p : ℕ) (row : Row). AreOrdered table of row.told.now p) table k (λ row at.
    allowed table of row.told.now k c.index.result.now c.index-in-loop-k.result.now c.index-in-loop-k-2.result.now c.index-in-loop-k-3.result.now c.index-in-loop-k-4.result.now c.is_told_at-told.result
    (sym c.is_allowed.ensures ∙ c.if-not-is_allowed.false) (λ is_told. c.is_told_at-told.ensures is_told row at)
    (decided_at table c.of.inside.merged c.of.inside.ours of.merged of.ours k c.in_ok-merged_ours.merged_ours.items c.index.result.now merged ours lt c.index.ensures c.in_ok-merged_ours.ensures)
    (decided_at table c.of.inside.merged c.of.inside.theirs of.merged of.theirs k c.in_ok-merged_theirs.merged_theirs.items c.index-in-loop-k.result.now merged theirs lt c.index-in-loop-k.ensures c.in_ok-merged_theirs.ensures)
    (decided_at table c.of.inside.ours c.of.inside.theirs of.ours of.theirs k c.in_ok-sides.sides.items c.index-in-loop-k-2.result.now ours theirs lt c.index-in-loop-k-2.ensures c.in_ok-sides.ensures)
    (decided_at table c.of.inside.base c.of.inside.ours of.base of.ours k c.in_ok-base_ours.base_ours.items c.index-in-loop-k-3.result.now base ours lt c.index-in-loop-k-3.ensures c.in_ok-base_ours.ensures)
    (decided_at table c.of.inside.base c.of.inside.theirs of.base of.theirs k c.in_ok-base_theirs.base_theirs.items c.index-in-loop-k-4.result.now base theirs lt c.index-in-loop-k-4.ensures c.in_ok-base_theirs.ensures))
    c.loop-k.invariant

pub returns-clause-none : goal.returns-clause-none
returns-clause-none c =
    let long : length c.args.table.now ≤ c.loop-k.k = grind (arith, common_steps) in
    each_all (λ (p : ℕ) (row : Row). AreOrdered c.args.table.now c.args.of.now row.told.now p) c.args.table.now c.loop-k.k long c.loop-k.invariant
