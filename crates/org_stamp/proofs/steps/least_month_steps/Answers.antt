use Rattle.std.proofs.Common.{◌≡◌, inl, inr, ◌+◌, ◌-◌, ◌*◌, ◌/◌, ◌<◌, ◌≤◌, ◌≤ℤ◌, ◌<ℤ◌, arith}
use Rattle.std.proofs.lemmas.Int.{ints}
use Rattle.std.proofs.Math.Nat.{div-mul-le_self}
use Rattle.std.proofs.lemmas.Bool.{cases_lt}
use Rattle.org_stamp.specs.Calendar.{day_number, months_after, month_number}
use Rattle.org_stamp.proofs.Later.{reach, miss, few_steps, whole_steps, past_steps, whole_some, whole_few, months_within, found_months, to_year_in, reached_at, missed_at, missed_steps}
use Rattle.org_stamp.proofs.steps.least_month_steps.Goals as goal
use Rattle.org_stamp.proofs.steps.least_month_steps.Goals.{in_default-via-in-Some+else-target-number, in_default-via-in_default}

pub overflow_mul-whole : goal.overflow_mul-whole
overflow_mul-whole c = omega (arith, div-mul-le_self (c.month_number-to.result - c.month_number-from.result) c.args.step)

pub plus_months-requires : goal.plus_months-requires
plus_months-requires c = omega (arith, div-mul-le_self (c.month_number-to.result - c.month_number-from.result) c.args.step)

pub returns-then-to-from-clause-reached : goal.returns-then-to-from-clause-reached
returns-then-to-from-clause-reached c =
    let lt : month_number c.args.now < month_number c.args.day + 1 * c.args.step = omega (arith, c.month_number-from.ensures.value, c.month_number-to.ensures.value) in
    reach c.args.day c.args.now (1 * c.args.step) c.args.target c.month_number-from.ensures.valid c.month_number-to.ensures.valid lt c.requires.target

pub returns-in-Some-clause-reached : goal.returns-in-Some-clause-reached
returns-in-Some-clause-reached c =
    let same = found_months c.args.day _ c.in-Some.reached c.in-Some.ensures.value in
    let past : c.args.target ≤ℤ day_number c.in-Some.reached = omega (arith, ints, c.number.ensures.value, c.if-target-number.true) in
    reached_at c.args.target c.in-Some.reached _ same past

pub returns-in-Some-clause-least : goal.returns-in-Some-clause-least
returns-in-Some-clause-least c = λ j some lt.
    let from = c.month_number-from.ensures.value in
    let to = c.month_number-to.ensures.value in
    let le : c.month_number-from.result ≤ c.month_number-to.result = omega arith in
    let few = few_steps c.month_number-from.result c.month_number-to.result c.args.step j c.requires.step le lt in
    miss c.args.day c.args.now (j * c.args.step) c.args.target c.month_number-from.ensures.valid c.month_number-to.ensures.valid (omega (arith, few, from, to)) c.requires.target

pub returns-in_default-clause-reached : goal.returns-in_default-clause-reached
returns-in_default-clause-reached c =
    let from = c.month_number-from.ensures.value in
    let to = c.month_number-to.ensures.value in
    let le : c.month_number-from.result ≤ c.month_number-to.result = omega arith in
    let past = past_steps c.month_number-from.result c.month_number-to.result c.args.step c.requires.step le in
    reach c.args.day c.args.now _ c.args.target c.month_number-from.ensures.valid c.month_number-to.ensures.valid (omega (arith, past, from, to)) c.requires.target

pub returns-in_default-clause-least : goal.returns-in_default-clause-least
returns-in_default-clause-least c = λ j some lt.
    let from = c.month_number-from.ensures.value in
    let to = c.month_number-to.ensures.value in
    let whole = (c.month_number-to.result - c.month_number-from.result) / c.args.step in
    let le : c.month_number-from.result ≤ c.month_number-to.result = omega arith in
    elim (cases_lt j whole) [
      | inl few ↦
          let below = few_steps c.month_number-from.result c.month_number-to.result c.args.step j c.requires.step le few in
          miss c.args.day c.args.now (j * c.args.step) c.args.target c.month_number-from.ensures.valid c.month_number-to.ensures.valid (omega (arith, below, from, to)) c.requires.target
      | inr last ↦
          let same : whole ≡ j = omega arith in
          missed_steps c.args.day j whole c.args.step c.args.target same (elim c.in_default.branch [
            | in_default-via-in-Some+else-target-number w ↦
                let reached = found_months c.args.day _ w.in-Some.reached w.in-Some.ensures.value in
                let before : day_number w.in-Some.reached <ℤ c.args.target = omega (arith, ints, w.number.ensures.value, w.if-target-number.false) in
                missed_at c.args.target w.in-Some.reached _ reached before
            | in_default-via-in_default w ↦
                let most = whole_steps c.month_number-from.result c.month_number-to.result c.args.step le in
                let within = months_within c.args.day c.args.now (whole * c.args.step) c.month_number-from.ensures.valid c.month_number-to.ensures.valid (omega (arith, most, from, to)) in
                let is = to_year_in (months_after c.args.day (whole * c.args.step)) within in
                let none = w.in_default.ensures.value in
                absurd (cc)
          ])
    ]

pub overflow_add-from : goal.overflow_add-from
overflow_add-from c = omega arith

pub overflow_sub-whole : goal.overflow_sub-whole
overflow_sub-whole c = omega arith

pub returns-then-to-from-clause-bound : goal.returns-then-to-from-clause-bound
returns-then-to-from-clause-bound c = omega arith

pub nonzero_div-whole : goal.nonzero_div-whole
nonzero_div-whole c = omega arith

pub returns-then-to-from-clause-some : goal.returns-then-to-from-clause-some
returns-then-to-from-clause-some c = omega arith

pub returns-then-to-from-clause-least : goal.returns-then-to-from-clause-least
returns-then-to-from-clause-least c = λ j some lt. absurd (omega (arith, some, lt))

pub returns-in-Some-clause-some : goal.returns-in-Some-clause-some
returns-in-Some-clause-some c = whole_some c.month_number-from.result c.month_number-to.result c.args.step c.requires.step c.if-to-from.false

pub returns-in-Some-clause-bound : goal.returns-in-Some-clause-bound
returns-in-Some-clause-bound c =
    omega (arith, whole_few c.args.now c.month_number-from.result c.month_number-to.result c.args.step c.month_number-to.ensures.valid c.month_number-to.ensures.value c.requires.step)

pub overflow_cast-number : goal.overflow_cast-number
overflow_cast-number c = omega (arith, ints, c.number.ensures.bound)

pub overflow_add-result : goal.overflow_add-result
overflow_add-result c =
    omega (arith, whole_few c.args.now c.month_number-from.result c.month_number-to.result c.args.step c.month_number-to.ensures.valid c.month_number-to.ensures.value c.requires.step)

pub returns-in_default-clause-some : goal.returns-in_default-clause-some
returns-in_default-clause-some c = omega arith

pub returns-in_default-clause-bound : goal.returns-in_default-clause-bound
returns-in_default-clause-bound c =
    whole_few c.args.now c.month_number-from.result c.month_number-to.result c.args.step c.month_number-to.ensures.valid c.month_number-to.ensures.value c.requires.step
