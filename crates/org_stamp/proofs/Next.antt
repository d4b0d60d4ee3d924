-- The timestamp at the next repetition, by what the code finds of the repeater in turn.
use Rattle.std.proofs.Common.{◌≡◌, ◌≢◌, ℕ, ◌*◌, ◌<◌, ◌≤◌, false, Some, Result, arith, ◌^◌, ◌==◌, None, Ok, ap, ◌∙◌, subst, true, MatchBool, Err, eq-eqb, sym, refl}
use Rattle.std.proofs.lemmas.Grind.{common_steps}
use Rattle.org_stamp.specs.Calendar.{Moment}
use Rattle.org_stamp.specs.declared.kind.Base.{Base}
use Rattle.org_stamp.specs.declared.kind.Mark.{Mark}
use Rattle.org_stamp.specs.declared.kind.Mark.TheVariants.{CatchUp}
use Rattle.org_stamp.specs.declared.kind.Interval.{Interval}
use Rattle.org_stamp.specs.declared.kind.Repeater.{Repeater}
use Rattle.org_fault.specs.declared.refusal.Refusal.{Refusal}
use Rattle.org_stamp.specs.Stamp.{StampValue, first_repeater}
use Rattle.org_stamp.specs.Repeat.{IsLater, IsNext, RepeatsBy, in_base, in_range, is_barred, moved, RepeatsAs, shifted}
use Rattle.org_fault.specs.declared.refusal.Refusal.TheVariants.{BadRepeat}
use Rattle.std.proofs.lemmas.Bool.{ne_eqb}
use Rattle.std.proofs.Math.Nat.{one-mul}

pub next_of_none : (s : StampValue) (now : Moment) (same : StampValue) → None ≡ first_repeater s.cookies → same ≡ s → IsNext s now (Ok same)
next_of_none s now same none is = subst (λ o. RepeatsAs o s now (Ok same)) none (ap Ok is)

pub next_of_zero : (s : StampValue) (now : Moment) (p : Repeater) (same : StampValue) → Some p ≡ first_repeater s.cookies → p.interval.value ≡ 0 → same ≡ s → IsNext s now (Ok same)
next_of_zero s now p same some zero is =
    let r : Result StampValue Refusal = Ok same in
    let none : (p.interval.value == 0) ≡ true = eq-eqb p.interval.value 0 zero in
    subst (λ o. RepeatsAs o s now r) some (subst (λ t. MatchBool t (r ≡ Ok s) (MatchBool (is_barred p.interval.unit s) (r ≡ Err BadRepeat) (RepeatsBy p.mark p.interval s now r))) (sym none) (ap Ok is))

pub next_of_barred : (s : StampValue) (now : Moment) (p : Repeater) → Some p ≡ first_repeater s.cookies → p.interval.value ≢ 0 → is_barred p.interval.unit s ≡ true → IsNext s now (Err BadRepeat)
next_of_barred s now p some value barred =
    let r : Result StampValue Refusal = Err BadRepeat in
    let none : (p.interval.value == 0) ≡ false = ne_eqb p.interval.value 0 value in
    let refused : MatchBool (is_barred p.interval.unit s) (r ≡ Err BadRepeat) (RepeatsBy p.mark p.interval s now r) = subst (λ t. MatchBool t (r ≡ Err BadRepeat) (RepeatsBy p.mark p.interval s now r)) (sym barred) refl in
    subst (λ o. RepeatsAs o s now r) some (subst (λ t. MatchBool t (r ≡ Ok s) (MatchBool (is_barred p.interval.unit s) (r ≡ Err BadRepeat) (RepeatsBy p.mark p.interval s now r))) (sym none) refused)

pub next_by_mark : (s : StampValue) (now : Moment) (p : Repeater) (mark : Mark) (r : Result StampValue Refusal) → Some p ≡ first_repeater s.cookies → p.interval.value ≢ 0 → is_barred p.interval.unit s ≡ false → p.mark ≡ mark → RepeatsBy mark p.interval s now r → IsNext s now r
next_by_mark s now p mark r some value free is repeats = grind (arith, common_steps)

-- moved by the repeater's interval is moved by it once
pub moved_once : (s : StampValue) (i : Interval) (step : Base × ℕ) (r : Result StampValue Refusal) → step ≡ in_base i.unit i.value → r ≡ in_range (moved s step.0 step.1) → r ≡ in_range (shifted s i 1)
moved_once s i step r in_units is =
    subst (λ (x : Base × ℕ). r ≡ in_range (moved s x.0 (1 * x.1))) in_units (is ∙ ap (λ n. in_range (moved s step.0 n)) (sym (one-mul step.1)))

-- moved by the least number of steps that leads past now
pub caught_up : (s : StampValue) (now : Moment) (i : Interval) (step : Base × ℕ) (k : ℕ) (r : Result StampValue Refusal) → step ≡ in_base i.unit i.value → 1 ≤ k → IsLater (moved s step.0 (k * step.1)) now
    → ((j : ℕ) → 1 ≤ j → j < k → ¬ (IsLater (moved s step.0 (j * step.1)) now)) → r ≡ in_range (moved s step.0 (k * step.1)) → RepeatsBy CatchUp i s now r
caught_up s now i step k r in_units some later least is = grind (arith, common_steps)

pub times_fit : (k n : ℕ) → k ≤ 2 ^ 36 → n < 2 ^ 22 → k * n < 2 ^ 59
times_fit k n few small = grind arith
