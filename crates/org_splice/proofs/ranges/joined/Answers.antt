use Rattle.std.proofs.Common.{◌≡◌, [], ◌-◌, ◌^◌, ◌<◌, ◌+◌, ◌∷◌, ◌++◌, List, length, get_or, drop, refl, sym, ◌∙◌, ap, subst, arith}
use Rattle.std.proofs.lemmas.List.{drop_more, drop_all}
use Rattle.org_splice.specs.declared.Span.{Span}
use Rattle.org_splice.specs.Ranges.{cut_at, joined}
use Rattle.org_splice.proofs.Apart.{LieApart-cut_at}
use Rattle.org_splice.proofs.Failing.{no_value}
use Rattle.org_splice.proofs.Joining.{IsJoinedSoFar, cut_kept, cut_left_out, joined_before, joined_behind, joined_touching}
use Rattle.org_splice.proofs.ranges.joined.Goals as goal
use Rattle.org_splice.proofs.ranges.joined.Goals.{then-cut-own+in_ok-push, else-cut-own+then-own-cut+in_ok-push-2, else-cut-own+else-own-cut}

pub loop-range-init : goal.loop-range-init
loop-range-init c = let none : c.reserve.new.self.items ≡ [] = c.reserve.ensures.items ∙ c.clear.ensures.items in rw none (record { so_far = refl; full = c.requires.full; apart = LieApart-cut_at 0 (2 ^ 64 - 1) c.args.size c.args.ranges.now c.requires.changed.apart })

pub returns-in_err-reserve : goal.returns-in_err-reserve
returns-in_err-reserve c = no_value _ _ c.from_residual.ensures.0

pub returns-in_err-push : goal.returns-in_err-push
returns-in_err-push c = no_value _ _ c.from_residual-in_err-push.ensures.0

pub returns-in_err-push-2 : goal.returns-in_err-push-2
returns-in_err-push-2 c = no_value _ _ c.from_residual-in_err-push-2.ensures.0

pub returns-in_err-push-3 : goal.returns-in_err-push-3
returns-in_err-push-3 c = no_value _ _ c.from_residual-in_err-push-3.ensures.0

pub loop-range-preserved-then-range-size : goal.loop-range-preserved-then-range-size
loop-range-preserved-then-range-size c =
    let ranges : List Span = c.args.ranges.now in
    let none : Span = record { start = 0; end = 0 } in
    let range : Span = get_or ranges c.loop-range.range-index none in
    let rest : List Span = drop (c.loop-range.range-index + 1) ranges in
    let here : c.loop-range.range-index < length ranges = omega arith in
    let left : cut_at c.args.size (drop c.loop-range.range-index ranges) ≡ cut_at c.args.size rest =
    ap (cut_at c.args.size) (drop_more ranges c.loop-range.range-index none here) ∙ cut_left_out c.args.size range rest c.if-range-size.true in
    let P : List Span → Type 0 = λ left. IsJoinedSoFar c.args.size c.args.own (cut_at c.args.size ranges) c.loop-range.all.items c.loop-range.own left in
    subst P left c.loop-range.invariant

pub loop-range-preserved : goal.loop-range-preserved
loop-range-preserved c =
    let size = c.args.size in
    let ranges : List Span = c.args.ranges.now in
    let none : Span = record { start = 0; end = 0 } in
    let range : Span = get_or ranges c.loop-range.range-index none in
    let rest : List Span = drop (c.loop-range.range-index + 1) ranges in
    let here : c.loop-range.range-index < length ranges = omega arith in
    let cut : Span = record { start = range.start; end = c.min.result } in
    let all : List Span = c.loop-range.all.items in
    let own : Span = c.loop-range.own in
    let left : cut_at size (drop c.loop-range.range-index ranges) ≡ cut ∷ cut_at size rest =
    ap (cut_at size) (drop_more ranges c.loop-range.range-index none here) ∙ rw c.min.ensures (cut_kept size range rest c.if-range-size.false) in
    let P : List Span → Type 0 = λ left. IsJoinedSoFar size c.args.own (cut_at size ranges) all own left in
    let done : IsJoinedSoFar size c.args.own (cut_at size ranges) all own (cut ∷ cut_at size rest) = subst P left c.loop-range.invariant in
    elim c.if-cut-own.branch [
      | then-cut-own+in_ok-push w ↦ rw (w.all-is, w.own-is, w.in_ok-push.ensures.items) (joined_before size c.args.own (cut_at size ranges) all own cut (cut_at size rest) w.if-cut-own.true done)
      | else-cut-own+then-own-cut+in_ok-push-2 w ↦ rw (w.all-is, w.own-is, w.in_ok-push-2.ensures.items) (joined_behind size c.args.own (cut_at size ranges) all own cut (cut_at size rest) w.if-own-cut.true done)
      | else-cut-own+else-own-cut w ↦ rw (w.all-is, w.own-is, w.min-else-own-cut.ensures, w.max.ensures) (joined_touching size c.args.own (cut_at size ranges) all own cut (cut_at size rest) w.if-cut-own.false w.if-own-cut.false done)
    ]

pub returns : goal.returns
returns c =
    let all : List Span = c.loop-range.all.items in
    c.in_ok-push-3.ensures.items
    ∙ ap (λ (rest : List Span). all ++ joined c.loop-range.own (cut_at c.args.size rest)) (sym (drop_all c.loop-range.range-index c.args.ranges.now c.loop-range-test.false)) ∙ c.loop-range.invariant.so_far
