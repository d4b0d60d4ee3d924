use Rattle.std.proofs.Common.{ℕ, ◌≤◌, ◌<◌, ◌+◌, drop, ap, sym, subst, ◌∙◌, leb, arith}
use Rattle.org_journal.proofs.Fitting.{FitSoFar, fit_start, fit_ends, fit_next, fit_stop, fit_end}
use Rattle.org_journal.proofs.finding.fits.Goals as goal

pub loop-patch-init : goal.loop-patch-init
loop-patch-init c = fit_start c.args.patches.now c.args.length c.args.size c.requires

pub overflow_add-place : goal.overflow_add-place
overflow_add-place c = omega (arith, c.len.ensures, c.ranges.length, fit_ends c.args.patches.now c.loop-patch.patch-index c.loop-patch.place c.args.length c.args.size c.patch-item.result c.loop-patch-test.true c.patch-item.is c.loop-patch.invariant)

pub loop-patch-preserved : goal.loop-patch-preserved
loop-patch-preserved c =
    subst (λ (n : ℕ). FitSoFar (drop (c.loop-patch.patch-index + 1) c.args.patches.now) (c.patch-item.result.from + n) c.args.length c.args.size c.args.patches.now) (sym c.len.ensures)
    (fit_next c.args.patches.now c.loop-patch.patch-index c.loop-patch.place c.args.length c.args.size c.patch-item.result c.loop-patch-test.true c.patch-item.is (subst (λ (n : ℕ). c.patch-item.result.from ≤ n) c.max.ensures c.if-patch-max.false) c.loop-patch.invariant)

pub returns-then-patch-max : goal.returns-then-patch-max
returns-then-patch-max c =
    fit_stop c.args.patches.now c.loop-patch.patch-index c.loop-patch.place c.args.length c.args.size c.patch-item.result c.loop-patch-test.true c.patch-item.is (subst (λ (n : ℕ). n < c.patch-item.result.from) c.max.ensures c.if-patch-max.true) c.loop-patch.invariant

pub returns : goal.returns
returns c = ap (λ (n : ℕ). leb c.args.length n) c.max-2.ensures ∙ fit_end c.args.patches.now c.loop-patch.patch-index c.loop-patch.place c.args.length c.args.size c.loop-patch-test.false c.loop-patch.invariant
