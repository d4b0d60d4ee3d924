use Rattle.std.proofs.Common.{◌≡◌, ◌≤◌, ◌<◌, ◌+◌, ◌-◌, ◌∙◌, ap, true, false, length, take, drop, get_or, None, Some, sym, subst, rules, arith}
use Rattle.std.proofs.lemmas.List.{take_rest}
use Rattle.org_disk.specs.Names.{is_slash, parts}
use Rattle.org_disk.proofs.Parts.{between, no_slash_at, no_slash_more}
use Rattle.org_move.specs.Location.{after_part, at_end}
use Rattle.org_move.proofs.Ways.{way_on, way_up, way_over, way_lost}
use Rattle.org_move.proofs.locating.end_of.Goals as goal

pub loop-at-preserved-then-byte-ne47 : goal.loop-at-preserved-then-byte-ne47
loop-at-preserved-then-byte-ne47 c =
    let l = c.loop-at in
    let way = c.args.way.now in
    let other : is_slash (get_or way l.at 0) ≡ false = search rules in
    (omega (arith, l.invariant.0), no_slash_more way l.start l.at l.invariant.0 c.loop-at-test.true l.invariant.1 other, l.invariant.2)

pub returns-then-not-branch : goal.returns-then-not-branch
returns-then-not-branch c =
    let l = c.loop-at in
    let way = c.args.way.now in
    let slash : is_slash (get_or way l.at 0) ≡ true = search rules in
    let step : after_part l.path.items (drop l.start (take l.at way)) ≡ None = search (rules, between) in
    sym (way_up l.path.items way l.start l.at l.invariant.0 l.invariant.1 c.loop-at-test.true slash step) ∙ l.invariant.2

pub loop-at-preserved : goal.loop-at-preserved
loop-at-preserved c =
    let l = c.loop-at in
    let way = c.args.way.now in
    let next = c.take_part.new.path.items in
    let slash : is_slash (get_or way l.at 0) ≡ true = search rules in
    let step : after_part l.path.items (drop l.start (take l.at way)) ≡ Some next = search (rules, between) in (
      omega arith,
      no_slash_at way (l.at + 1) (omega (arith, c.loop-at-test.true)),
      sym (way_on l.path.items way l.start l.at l.invariant.0 l.invariant.1 next c.loop-at-test.true slash step) ∙ l.invariant.2,
    )

pub returns : goal.returns
returns c =
    let l = c.loop-at in
    let way = c.args.way.now in
    let next = c.take_part-2.new.path.items in
    let end : length way ≤ l.at = omega (arith, c.loop-at-test.false) in
    let step : after_part l.path.items (drop l.start way) ≡ Some next = search (rules, take_rest) in
    let popped : c.pop.new.self.items ≡ take (length next - 1) next = search rules in
    ap (λ p. Some p) popped ∙ sym (way_over l.path.items way l.start l.at l.invariant.0 l.invariant.1 next end step) ∙ l.invariant.2
