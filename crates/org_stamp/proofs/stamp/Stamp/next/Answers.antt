use Rattle.std.proofs.Common.{◌≡◌, false, sym, ap, ◌∙◌, arith}
use Rattle.org_stamp.specs.declared.kind.Mark.TheVariants.{Cumulate, CatchUp, Restart}
use Rattle.org_stamp.specs.Repeat.{in_range, is_barred, moved, restarted}
use Rattle.org_stamp.proofs.Next.{next_of_none, next_of_zero, next_of_barred, next_by_mark, moved_once, caught_up, times_fit}
use Rattle.org_stamp.proofs.stamp.Stamp.next.Goals as goal

pub returns-in_default-clause-valid : goal.returns-in_default-clause-valid
returns-in_default-clause-valid c = c.repeater.ensures.valid

pub returns-in_default-clause-value : goal.returns-in_default-clause-value
returns-in_default-clause-value c = next_of_none c.args.self.now c.args.now c.same.result c.in_default.ensures.value c.same.ensures

pub returns-then-interval-eq0-clause-valid : goal.returns-then-interval-eq0-clause-valid
returns-then-interval-eq0-clause-valid c = c.repeater.ensures.valid

pub returns-then-interval-eq0-clause-value : goal.returns-then-interval-eq0-clause-value
returns-then-interval-eq0-clause-value c =
    next_of_zero c.args.self.now c.args.now c.in-Some.repeater c.same-then-interval-eq0.result c.in-Some.ensures.value c.if-interval-eq0.true c.same-then-interval-eq0.ensures

pub returns-then-is_barred-clause-valid : goal.returns-then-is_barred-clause-valid
returns-then-is_barred-clause-valid c = c.repeater.ensures.valid

pub returns-then-is_barred-clause-value : goal.returns-then-is_barred-clause-value
returns-then-is_barred-clause-value c =
    next_of_barred c.args.self.now c.args.now c.in-Some.repeater c.in-Some.ensures.value c.if-interval-eq0.false (sym c.is_barred.ensures ∙ c.if-is_barred.true)

pub moved-requires : goal.moved-requires
moved-requires c = omega (arith, c.in_base-base.ensures.bound)

pub steps-requires-clause-some : goal.steps-requires-clause-some
steps-requires-clause-some c = c.in_base-base.ensures.some (omega arith)

pub steps-requires-clause-bound : goal.steps-requires-clause-bound
steps-requires-clause-bound c = omega (arith, c.in_base-base.ensures.bound)

pub overflow_mul-steps : goal.overflow_mul-steps
overflow_mul-steps c = omega (arith, times_fit c.steps.result c.in_base-base.result.1 c.steps.ensures.bound (omega (arith, c.in_base-base.ensures.bound)))

pub moved-requires-in-CatchUp : goal.moved-requires-in-CatchUp
moved-requires-in-CatchUp c = times_fit c.steps.result c.in_base-base.result.1 c.steps.ensures.bound (omega (arith, c.in_base-base.ensures.bound))

pub moved-requires-in-Restart : goal.moved-requires-in-Restart
moved-requires-in-Restart c = omega (arith, c.in_base-base.ensures.bound)

pub returns-in-Cumulate-clause-valid : goal.returns-in-Cumulate-clause-valid
returns-in-Cumulate-clause-valid c = c.repeater.ensures.valid

pub returns-in-Cumulate-clause-value : goal.returns-in-Cumulate-clause-value
returns-in-Cumulate-clause-value c =
    let s = c.args.self.now in
    let p = c.in-Some.repeater in
    let free : is_barred p.interval.unit s ≡ false = sym c.is_barred.ensures ∙ c.if-is_barred.false in
    next_by_mark s c.args.now p Cumulate c.moved.result c.in-Some.ensures.value c.if-interval-eq0.false free c.in-Cumulate.is (moved_once s p.interval c.in_base-base.result c.moved.result c.in_base-base.ensures.value c.moved.ensures)

pub returns-in-CatchUp-clause-valid : goal.returns-in-CatchUp-clause-valid
returns-in-CatchUp-clause-valid c = c.repeater.ensures.valid

pub returns-in-CatchUp-clause-value : goal.returns-in-CatchUp-clause-value
returns-in-CatchUp-clause-value c =
    let s = c.args.self.now in
    let p = c.in-Some.repeater in
    let free : is_barred p.interval.unit s ≡ false = sym c.is_barred.ensures ∙ c.if-is_barred.false in
    next_by_mark s c.args.now p CatchUp c.moved-in-CatchUp.result c.in-Some.ensures.value c.if-interval-eq0.false free c.in-CatchUp.is (caught_up s c.args.now p.interval c.in_base-base.result c.steps.result c.moved-in-CatchUp.result c.in_base-base.ensures.value c.steps.ensures.some c.steps.ensures.later c.steps.ensures.least c.moved-in-CatchUp.ensures)

pub returns-in-Restart-clause-valid : goal.returns-in-Restart-clause-valid
returns-in-Restart-clause-valid c = c.repeater.ensures.valid

pub returns-in-Restart-clause-value : goal.returns-in-Restart-clause-value
returns-in-Restart-clause-value c =
    let s = c.args.self.now in
    let p = c.in-Some.repeater in
    let free : is_barred p.interval.unit s ≡ false = sym c.is_barred.ensures ∙ c.if-is_barred.false in
    next_by_mark s c.args.now p Restart c.moved-in-Restart.result c.in-Some.ensures.value c.if-interval-eq0.false free c.in-Restart.is (moved_once (restarted s p.interval.unit c.args.now) p.interval c.in_base-base.result c.moved-in-Restart.result c.in_base-base.ensures.value (c.moved-in-Restart.ensures ∙ ap (λ x. in_range (moved x c.in_base-base.result.0 c.in_base-base.result.1)) c.restarted.ensures))
