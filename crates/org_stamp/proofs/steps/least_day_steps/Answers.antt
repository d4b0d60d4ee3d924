use Rattle.std.proofs.Common.{◌*◌, arith}
use Rattle.std.proofs.lemmas.Int.{ints}
use Rattle.org_stamp.proofs.Later.{after_number, civil_of}
use Rattle.org_stamp.proofs.steps.least_day_steps.Goals as goal

pub returns-clause-reached : goal.returns-clause-reached
returns-clause-reached c =
    let number = after_number c.args.day (c.least_steps.result * c.args.step) (civil_of c.args.day c.number.ensures.valid) in
    omega (arith, ints, number, c.number.ensures.value, c.gap.ensures.reached, c.least_steps.ensures.reached)

pub returns-clause-least : goal.returns-clause-least
returns-clause-least c = λ j some lt.
    let number = after_number c.args.day (j * c.args.step) (civil_of c.args.day c.number.ensures.valid) in
    let few = c.least_steps.ensures.least j some lt in
    omega (arith, ints, number, c.number.ensures.value, c.gap.ensures.least, few)
