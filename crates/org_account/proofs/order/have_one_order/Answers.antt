use Rattle.std.proofs.Common.{◌≡◌, ◌≤◌, ◌<◌, ℕ, List, length, get_or, false, ap, sym, subst, ◌+◌, arith}
use Rattle.std.specs.Prelude.{Bool}
use Rattle.std.proofs.Math.ListN.{set}
use Rattle.std.proofs.lemmas.Grind.{common_steps}
use Rattle.org_account.specs.Order.{AreKnown}
use Rattle.org_account.proofs.Ordering.{known_none, known_beside, known_rise, known_fall, decided}
use Rattle.org_account.proofs.order.have_one_order.Goals as goal
use Rattle.org_account.proofs.order.have_one_order.Goals.{in-Some+then-row-table+then-number-index, in-Some+then-row-table+else-number-index, in-Some+else-row-table, in_default}

pub loop-unit-preserved : goal.loop-unit-preserved
loop-unit-preserved c =
    let table = c.args.table.now in
    let first = c.args.first.now in
    let second = c.args.second.now in
    let u : ℕ = c.loop-unit.unit in
    let last : List ℕ = c.loop-unit.last.items in
    let same : List Bool = c.loop-unit.same.items in
    let both : (l : List ℕ) (s : List Bool) → c.match-below_both.last.items ≡ l → c.match-below_both.same.items ≡ s → AreKnown table first second (u + 1) l s → AreKnown table first second (u + 1) c.match-below_both.last.items c.match-below_both.same.items =
    λ l s le se k. subst (λ (x : List ℕ). AreKnown table first second (u + 1) x c.match-below_both.same.items) (sym le) (subst (λ (x : List Bool). AreKnown table first second (u + 1) l x) (sym se) k) in
    elim c.match-below_both.branch [
      | in-Some+then-row-table+then-number-index w ↦
          let p : ℕ = w.in-Some.row in
          let within : p < length table = grind (arith, common_steps) in
          let down : w.in-Some.number < get_or last p 0 = grind (arith, common_steps) in
          both last (set same p false) (ap (λ v. v.items) w.last-is) (ap (λ v. v.items) w.same-is)
          (known_fall table first second u p w.in-Some.number last same w.in-Some.ensures.some within down c.loop-unit.invariant)
      | in-Some+then-row-table+else-number-index w ↦
          let p : ℕ = w.in-Some.row in
          let within : p < length table = grind (arith, common_steps) in
          let up : get_or last p 0 ≤ w.in-Some.number = grind (arith, common_steps) in
          both (set last p (w.in-Some.number + 1)) same (ap (λ v. v.items) w.last-is) (ap (λ v. v.items) w.same-is)
          (known_rise table first second u p w.in-Some.number last same w.in-Some.ensures.some within up c.loop-unit.invariant)
      | in-Some+else-row-table w ↦
          let far : length table ≤ w.in-Some.row = grind (arith, common_steps) in
          both last same (ap (λ v. v.items) w.last-is) (ap (λ v. v.items) w.same-is)
          (known_beside table first second u w.in-Some.row w.in-Some.number last same w.in-Some.ensures.some far c.loop-unit.invariant)
      | in_default w ↦
          both last same (ap (λ v. v.items) w.last-is) (ap (λ v. v.items) w.same-is)
          (known_none table first second u last same w.in_default.ensures.none c.loop-unit.invariant)
    ]

pub returns : goal.returns
returns c =
    let long : length c.args.first.now.units ≤ c.loop-unit.unit = grind (arith, common_steps) in
    decided c.args.table.now c.args.first.now c.args.second.now c.loop-unit.unit c.loop-unit.last.items c.loop-unit.same.items long c.loop-unit.invariant
