use Rattle.std.proofs.Common.{◌≡◌, ◌+◌, ◌*◌, Some, ap, ◌∙◌, arith, subst}
use Rattle.org_stamp.specs.Calendar.{IsDay, at_minute, civil_day}
use Rattle.org_stamp.specs.Parts.{day_if_any}
use Rattle.org_stamp.proofs.Days.{day_made}
use Rattle.org_stamp.proofs.moment.Moment.new.Goals as goal

pub returns : goal.returns
returns c =
    let some : Some c.in_ok-day.day ≡ day_if_any c.args.year c.args.month c.args.day = c.in_ok-day.ensures ∙ ap (λ m. day_if_any c.args.year m c.from-2.result) c.from.ensures ∙ ap (λ d. day_if_any c.args.year c.args.month d) c.from-2.ensures in
    let day = civil_day c.args.year c.args.month c.args.day in
    let made = day_made c.args.year c.args.month c.args.day c.in_ok-day.day some in
    let minute : c.from-3.result * 60 + c.from-4.result ≡ c.args.hour * 60 + c.args.minute = omega arith in
    ((subst IsDay made.0 made.1, c.if-hour-ge24.false, c.if-minute-ge60.false), ap (λ d. at_minute d (c.from-3.result * 60 + c.from-4.result)) made.0 ∙ ap (λ n. at_minute day n) minute)
