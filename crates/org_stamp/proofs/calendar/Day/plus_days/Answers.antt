use Rattle.std.proofs.Common.{Some, refl, subst, sym, ap, ◌∙◌, rules, arith}
use Rattle.std.proofs.lemmas.Bool.{false≢true}
use Rattle.std.proofs.lemmas.Int.{ints}
use Rattle.jiff_core.specs.Calendar.{IsEpochDay}
use Rattle.jiff_core.proofs.SignedLemmas.{signed_arith}
use Rattle.org_stamp.specs.Calendar.{IsDay, days_after}
use Rattle.org_stamp.proofs.Later.{found_day, no_day, to_year_in, to_year_past, same_day, same_pos}
use Rattle.org_stamp.proofs.Added.{IsDateOf, days_added}
use Rattle.org_stamp.proofs.calendar.Day.plus_days.Goals as goal

pub of-requires : goal.of-requires
of-requires c =
    let self : IsDay c.args.self = search rules in
    let is : IsDateOf c.args.self c.date.result = record { year = c.date.ensures.year; month = c.date.ensures.month; day = c.date.ensures.day } in
    let number = days_added c.args.self c.date.result c.to_plain.result c.args.days _ _ is c.to_plain.ensures (omega (arith, ints, c.requires)) c.in-Ok.ensures.value in
    let found = found_day c.args.self c.args.days c.in-Ok.date self number in
    rw c.from_plain.ensures (omega (arith, signed_arith, found.year, found.civil.year))

pub returns-in-Ok-clause-value : goal.returns-in-Ok-clause-value
returns-in-Ok-clause-value c =
    let self : IsDay c.args.self = search rules in
    let is : IsDateOf c.args.self c.date.result = record { year = c.date.ensures.year; month = c.date.ensures.month; day = c.date.ensures.day } in
    let number = days_added c.args.self c.date.result c.to_plain.result c.args.days _ _ is c.to_plain.ensures (omega (arith, ints, c.requires)) c.in-Ok.ensures.value in
    let found = found_day c.args.self c.args.days c.in-Ok.date self number in
    let same = same_day c.of.result (days_after c.args.self c.args.days) (same_pos _ _ _ c.of.ensures.year (rw c.from_plain.ensures found.year)) (c.of.ensures.month ∙ rw c.from_plain.ensures found.month) (c.of.ensures.day ∙ rw c.from_plain.ensures found.day) in
    ap (λ d. Some d) same ∙ sym (to_year_in (days_after c.args.self c.args.days) found.last)

pub returns-in-Err-clause-value : goal.returns-in-Err-clause-value
returns-in-Err-clause-value c =
    let self : IsDay c.args.self = search rules in
    let is : IsDateOf c.args.self c.date.result = record { year = c.date.ensures.year; month = c.date.ensures.month; day = c.date.ensures.day } in
    let number = days_added c.args.self c.date.result c.to_plain.result c.args.days _ _ is c.to_plain.ensures (omega (arith, ints, c.requires)) refl in
    sym (to_year_past (days_after c.args.self c.args.days) (no_day c.args.self c.args.days self
    (λ within. false≢true (c.in-Err.ensures.succeeds.1 (subst IsEpochDay (sym number) within)))))
