use Rattle.std.proofs.Common.{◌≡◌, ℕ, List, false, true, map, length, ap, sym, subst, ◌∙◌, arith}
use Rattle.std.specs.Prelude.{not}
use Rattle.std.specs.Borrow.{Bor}
use Rattle.std.proofs.lemmas.Grind.{common_steps}
use Rattle.org_splice.specs.Lines.{lines_of}
use Rattle.org_account.specs.Text.{MayBeMissing, unlogged}
use Rattle.org_account.proofs.InOrder.{on_logged, on_start, on_missing, on_found, stand_none, with_log, pushed}
use Rattle.org_account.proofs.in_order.is_in_order.Goals as goal

pub loop-left-preserved-then-log : goal.loop-left-preserved-then-log
loop-left-preserved-then-log c = λ stand.
    c.loop-left.invariant (with_log (MayBeMissing c.args.texts.now c.args.other.now) (map (λ (x : Bor (List ℕ)). x.now) c.loop-left.missing.items) (lines_of c.loop-left.left.now) (lines_of c.loop-left.rest.now) true c.loop-left.log (sym c.if-log.true) (on_logged (MayBeMissing c.args.texts.now c.args.other.now) (map (λ (x : Bor (List ℕ)). x.now) c.loop-left.missing.items) c.first_line.result.0.now c.loop-left.left.now c.first_line.result.1.now c.loop-left.rest.now _ c.first_line.ensures.lines (ap not c.is_end-log.ensures) stand))

pub loop-left-preserved-then-begins_log : goal.loop-left-preserved-then-begins_log
loop-left-preserved-then-begins_log c = λ stand.
    c.loop-left.invariant (with_log (MayBeMissing c.args.texts.now c.args.other.now) (map (λ (x : Bor (List ℕ)). x.now) c.loop-left.missing.items) (lines_of c.loop-left.left.now) (lines_of c.loop-left.rest.now) false c.loop-left.log (sym c.if-log.false) (on_start (MayBeMissing c.args.texts.now c.args.other.now) (map (λ (x : Bor (List ℕ)). x.now) c.loop-left.missing.items) c.first_line.result.0.now c.loop-left.left.now c.first_line.result.1.now c.loop-left.rest.now c.first_line.ensures.lines (sym c.begins_log.ensures ∙ c.if-begins_log.true) stand))

pub loop-left-preserved-in-Some : goal.loop-left-preserved-in-Some
loop-left-preserved-in-Some c = λ stand.
    c.loop-left.invariant (with_log (MayBeMissing c.args.texts.now c.args.other.now) (map (λ (x : Bor (List ℕ)). x.now) c.loop-left.missing.items) (lines_of c.loop-left.left.now) (lines_of c.loop-left.rest.now) false c.loop-left.log (sym c.if-log.false) (on_found (MayBeMissing c.args.texts.now c.args.other.now) (map (λ (x : Bor (List ℕ)). x.now) c.loop-left.missing.items) c.first_line.result.0.now c.loop-left.left.now c.first_line.result.1.now c.loop-left.rest.now c.in-Some.more.now c.first_line.ensures.lines (sym c.begins_log.ensures ∙ c.if-begins_log.false) c.in-Some.ensures (with_log (MayBeMissing c.args.texts.now c.args.other.now) (map (λ (x : Bor (List ℕ)). x.now) c.loop-left.missing.items) (lines_of c.first_line.result.1.now) (lines_of c.in-Some.more.now) c.loop-left.log false c.if-log.false stand)))

pub loop-left-preserved : goal.loop-left-preserved
loop-left-preserved c = λ stand.
    let same : c.as_slice-in-loop-left.result.now ≡ c.loop-left.missing.items = grind (arith, common_steps) in
    c.loop-left.invariant (with_log (MayBeMissing c.args.texts.now c.args.other.now) (map (λ (x : Bor (List ℕ)). x.now) c.loop-left.missing.items) (lines_of c.loop-left.left.now) (lines_of c.loop-left.rest.now) false c.loop-left.log (sym c.if-log.false) (on_missing (MayBeMissing c.args.texts.now c.args.other.now) (map (λ (x : Bor (List ℕ)). x.now) c.loop-left.missing.items) c.first_line.result.0.now c.loop-left.left.now c.first_line.result.1.now c.loop-left.rest.now c.first_line.ensures.lines (sym c.begins_log.ensures ∙ c.if-begins_log.false) (subst (λ (xs : List (Bor (List ℕ))). MayBeMissing c.args.texts.now c.args.other.now (map (λ (x : Bor (List ℕ)). x.now) xs) c.first_line.result.0.now) same (c.may_be_missing.ensures c.if-not-may_be_missing.false))
    (pushed (MayBeMissing c.args.texts.now c.args.other.now) c.loop-left.missing.items _ c.first_line.result.0 (unlogged false (lines_of c.first_line.result.1.now)) (lines_of c.loop-left.rest.now) c.in_ok-push.ensures.items (with_log (MayBeMissing c.args.texts.now c.args.other.now) _ (lines_of c.first_line.result.1.now) (lines_of c.loop-left.rest.now) c.loop-left.log false c.if-log.false stand))))

pub returns : goal.returns
returns c =
    let empty : length c.loop-left.left.now ≡ 0 = grind (arith, common_steps) in
    λ yes. c.loop-left.invariant (stand_none (MayBeMissing c.args.texts.now c.args.other.now) (map (λ (x : Bor (List ℕ)). x.now) c.loop-left.missing.items) c.loop-left.log c.loop-left.left.now c.loop-left.rest.now empty)
