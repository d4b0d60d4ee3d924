use Rattle.std.proofs.Common.{◌≡◌, ◌*◌, pos, ◌+ℤ◌, ◌≤ℤ◌, ◌<ℤ◌, refl, sym, ap, subst, arith}
use Rattle.std.proofs.lemmas.Int.{ints}
use Rattle.jiff_core.proofs.SignedLemmas.{signed_arith}
use Rattle.org_stamp.specs.declared.kind.Base.TheVariants.{Minutes, Days, Months}
use Rattle.org_stamp.specs.Calendar.{days_after, months_after, minutes_of}
use Rattle.org_stamp.specs.Stamp.{StampValue, IsStamp, start_of}
use Rattle.org_stamp.specs.Repeat.{moved}
use Rattle.org_stamp.proofs.Ahead.{minutes_moved, later_in, later_there, not_later_there}
use Rattle.org_stamp.proofs.stamp.Stamp.steps.Goals as goal

pub returns-in-Minutes-clause-later : goal.returns-in-Minutes-clause-later
returns-in-Minutes-clause-later c =
    let s = c.args.self.now in
    let stamp : IsStamp s = subst IsStamp c.self.view_is c.self.invariant in
    let n = c.least_steps_past.result * c.args.count in
    let start : minutes_of c.moment.result ≡ minutes_of (start_of s) = ap minutes_of c.moment.ensures in
    let later : minutes_of c.args.now <ℤ minutes_of (start_of (moved s Minutes n)) = omega (arith, ints, minutes_moved s n stamp.day, c.least_steps_past.ensures.reached, c.minutes.ensures.value, c.minutes-in-Minutes.ensures.value, start, c.minutes.ensures.bound, c.minutes-in-Minutes.ensures.bound) in
    later_in s c.args.base Minutes n c.args.now c.in-Minutes.is later

pub returns-in-Minutes-clause-least : goal.returns-in-Minutes-clause-least
returns-in-Minutes-clause-least c = λ j some lt later.
    let s = c.args.self.now in
    let stamp : IsStamp s = subst IsStamp c.self.view_is c.self.invariant in
    let n = j * c.args.count in
    let start : minutes_of c.moment.result ≡ minutes_of (start_of s) = ap minutes_of c.moment.ensures in
    let few = c.least_steps_past.ensures.least j some lt in
    let before : (minutes_of (start_of s) +ℤ pos n) ≤ℤ minutes_of c.args.now = omega (arith, ints, few, c.minutes.ensures.value, c.minutes-in-Minutes.ensures.value, start, c.minutes.ensures.bound, c.minutes-in-Minutes.ensures.bound) in
    let after : minutes_of c.args.now <ℤ minutes_of (start_of (moved s Minutes n)) = later_in s Minutes c.args.base n c.args.now (sym c.in-Minutes.is) later in
    absurd (omega (arith, signed_arith, before, after, minutes_moved s n stamp.day))

pub returns-in-Days-clause-later : goal.returns-in-Days-clause-later
returns-in-Days-clause-later c =
    let s = c.args.self.now in
    let stamp : IsStamp s = subst IsStamp c.self.view_is c.self.invariant in
    let day : s.day ≡ c.self.inside.day = sym (ap (λ (x : StampValue). x.day) c.self.view_is) in
    let n = c.least_day_steps.result * c.args.count in
    later_there s c.args.base Days days_after c.args.now c.self.inside.day c.target-target.result c.in-Days.is (λ n. refl) day stamp.behind.time c.target-target.ensures.minute c.target-target.ensures.value n (omega (arith, ints, c.least_day_steps.ensures.reached, c.target-target.ensures.bound))

pub returns-in-Days-clause-least : goal.returns-in-Days-clause-least
returns-in-Days-clause-least c = λ j some lt later.
    let s = c.args.self.now in
    let stamp : IsStamp s = subst IsStamp c.self.view_is c.self.invariant in
    let day : s.day ≡ c.self.inside.day = sym (ap (λ (x : StampValue). x.day) c.self.view_is) in
    let few = c.least_day_steps.ensures.least j some lt in
    not_later_there s c.args.base Days days_after c.args.now c.self.inside.day c.target-target.result c.in-Days.is (λ n. refl) day stamp.behind.time c.target-target.ensures.minute c.target-target.ensures.value (j * c.args.count) (omega (arith, ints, few, c.target-target.ensures.bound)) later

pub returns-in-Months-clause-later : goal.returns-in-Months-clause-later
returns-in-Months-clause-later c =
    let s = c.args.self.now in
    let stamp : IsStamp s = subst IsStamp c.self.view_is c.self.invariant in
    let day : s.day ≡ c.self.inside.day = sym (ap (λ (x : StampValue). x.day) c.self.view_is) in
    let n = c.least_month_steps.result * c.args.count in
    later_there s c.args.base Months months_after c.args.now c.self.inside.day c.target-target.result c.in-Months.is (λ n. refl) day stamp.behind.time c.target-target.ensures.minute c.target-target.ensures.value n (omega (arith, ints, c.least_month_steps.ensures.reached, c.target-target.ensures.bound))

pub returns-in-Months-clause-least : goal.returns-in-Months-clause-least
returns-in-Months-clause-least c = λ j some lt later.
    let s = c.args.self.now in
    let stamp : IsStamp s = subst IsStamp c.self.view_is c.self.invariant in
    let day : s.day ≡ c.self.inside.day = sym (ap (λ (x : StampValue). x.day) c.self.view_is) in
    let few = c.least_month_steps.ensures.least j some lt in
    not_later_there s c.args.base Months months_after c.args.now c.self.inside.day c.target-target.result c.in-Months.is (λ n. refl) day stamp.behind.time c.target-target.ensures.minute c.target-target.ensures.value (j * c.args.count) (omega (arith, ints, few, c.target-target.ensures.bound)) later
