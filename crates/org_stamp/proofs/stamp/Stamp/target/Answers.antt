use Rattle.std.proofs.Common.{◌≡◌, ℤ, ◌<◌, pos, ◌+ℤ◌, inl, inr, sym, ap, ◌∙◌, arith}
use Rattle.std.proofs.lemmas.Int.{ints}
use mir.Syntax.{w32, w64}
use mir.Val.{to_z, of_z}
use Rattle.org_stamp.specs.Calendar.{CivilDay, Moment, day_number}
use Rattle.org_stamp.specs.Stamp.{StampValue}
use Rattle.org_stamp.specs.Repeat.{target_of}
use Rattle.org_stamp.proofs.Target.{to_come, past, timeless}
use Rattle.org_stamp.proofs.stamp.Stamp.target.Goals as goal
use Rattle.org_stamp.proofs.stamp.Stamp.target.Goals.{in_default-via-in-Some+else-minute-times, in_default-via-in_default}

-- the number that was read is that of the day of now
today : (n : ℤ) (read : CivilDay) (now : Moment) → n ≡ day_number read → read ≡ now.day → n ≡ day_number now.day
today n read now number same = number ∙ ap day_number same

pub returns-in-Some-clause-value : goal.returns-in-Some-clause-value
returns-in-Some-clause-value c =
    let number : to_z w64 (of_z w64 (to_z w32 (of_z w32 c.number-today.result))) ≡ c.number-today.result = omega (arith, ints, c.number-today.ensures.bound) in
    let timed = sym (ap (λ (x : StampValue). x.time) c.self.view_is) ∙ c.in-Some.is in
    let early : c.args.now.minute < c.in-Some.times.start = omega (arith, c.minute_of_day-minute.ensures.value, c.if-minute-times.true) in
    number ∙ today _ _ c.args.now c.number-today.ensures.value c.date.ensures.value ∙ sym (to_come c.args.self.now.time c.in-Some.times c.args.now timed early)

pub returns-in-Some-clause-minute : goal.returns-in-Some-clause-minute
returns-in-Some-clause-minute c = omega (arith, c.minute_of_day-minute.ensures.value, c.minute_of_day-minute.ensures.bound)

pub returns-in-Some-clause-near : goal.returns-in-Some-clause-near
returns-in-Some-clause-near c =
    let number : to_z w64 (of_z w64 (to_z w32 (of_z w32 c.number-today.result))) ≡ c.number-today.result = omega (arith, ints, c.number-today.ensures.bound) in
    inl (number ∙ today _ _ c.args.now c.number-today.ensures.value c.date.ensures.value)

pub returns-in-Some-clause-bound : goal.returns-in-Some-clause-bound
returns-in-Some-clause-bound c = (omega (arith, ints, c.number-today.ensures.bound), omega (arith, ints, c.number-today.ensures.bound))

pub returns-in_default-clause-value : goal.returns-in_default-clause-value
returns-in_default-clause-value c =
    let number : to_z w64 (of_z w64 (to_z w64 (of_z w64 (to_z w32 (of_z w32 c.number-today.result))) +ℤ pos 1)) ≡ c.number-today.result +ℤ pos 1 = omega (arith, ints, c.number-today.ensures.bound) in
    let time = sym (ap (λ (x : StampValue). x.time) c.self.view_is) in
    let next : target_of c.args.self.now.time c.args.now ≡ day_number c.args.now.day +ℤ pos 1 = elim c.in_default.branch [ in_default-via-in-Some+else-minute-times w ↦ past c.args.self.now.time w.in-Some.times c.args.now (time ∙ w.in-Some.is) (omega (arith, c.minute_of_day-minute.ensures.value, w.if-minute-times.false)) | in_default-via-in_default w ↦ timeless c.args.self.now.time c.args.now (time ∙ w.in_default.is) ] in
    number ∙ ap (λ z. z +ℤ pos 1) (today _ _ c.args.now c.number-today.ensures.value c.date.ensures.value) ∙ sym next

pub returns-in_default-clause-minute : goal.returns-in_default-clause-minute
returns-in_default-clause-minute c = omega (arith, c.minute_of_day-minute.ensures.value, c.minute_of_day-minute.ensures.bound)

pub returns-in_default-clause-near : goal.returns-in_default-clause-near
returns-in_default-clause-near c =
    let number : to_z w64 (of_z w64 (to_z w64 (of_z w64 (to_z w32 (of_z w32 c.number-today.result))) +ℤ pos 1)) ≡ c.number-today.result +ℤ pos 1 = omega (arith, ints, c.number-today.ensures.bound) in
    inr (number ∙ ap (λ z. z +ℤ pos 1) (today _ _ c.args.now c.number-today.ensures.value c.date.ensures.value))

pub returns-in_default-clause-bound : goal.returns-in_default-clause-bound
returns-in_default-clause-bound c = (omega (arith, ints, c.number-today.ensures.bound), omega (arith, ints, c.number-today.ensures.bound))
