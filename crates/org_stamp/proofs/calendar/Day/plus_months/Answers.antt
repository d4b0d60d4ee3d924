use Rattle.std.proofs.Common.{◌≡◌, Some, sym, ap, ◌∙◌, rules, arith}
use Rattle.std.proofs.lemmas.Bool.{false≢true}
use Rattle.std.proofs.lemmas.Int.{ints}
use Rattle.jiff_core.specs.Date.{epoch_day}
use Rattle.jiff_core.proofs.SignedLemmas.{signed_arith}
use Rattle.org_stamp.specs.Calendar.{IsDay, day_number, months_after}
use Rattle.org_stamp.proofs.Later.{to_year_in, to_year_past, same_day, same_pos}
use Rattle.org_stamp.proofs.Added.{IsDateOf, by_months, months_added, no_months, months_found}
use Rattle.org_stamp.proofs.calendar.Day.plus_months.Goals as goal

pub of-requires : goal.of-requires
of-requires c =
    let self : IsDay c.args.self = search rules in
    let is : IsDateOf c.args.self c.date.result = record { year = c.date.ensures.year; month = c.date.ensures.month; day = c.date.ensures.day } in
    let on = by_months c.args.months _ c.new.result c.in-Ok.span c.new.ensures c.in-Ok.ensures.value (omega (arith, ints, c.requires)) in
    let number : epoch_day c.in-Ok-checked_add.date ≡ day_number (months_after c.args.self c.args.months) = c.in-Ok-checked_add.ensures.value ∙ months_added c.args.self c.date.result c.args.months c.in-Ok.span self is on in
    let found = months_found c.args.self c.args.months c.in-Ok-checked_add.date self number in
    omega (arith, signed_arith, found.year, found.civil.year)

pub returns-in-Ok-checked_add-clause-value : goal.returns-in-Ok-checked_add-clause-value
returns-in-Ok-checked_add-clause-value c =
    let self : IsDay c.args.self = search rules in
    let is : IsDateOf c.args.self c.date.result = record { year = c.date.ensures.year; month = c.date.ensures.month; day = c.date.ensures.day } in
    let on = by_months c.args.months _ c.new.result c.in-Ok.span c.new.ensures c.in-Ok.ensures.value (omega (arith, ints, c.requires)) in
    let number : epoch_day c.in-Ok-checked_add.date ≡ day_number (months_after c.args.self c.args.months) = c.in-Ok-checked_add.ensures.value ∙ months_added c.args.self c.date.result c.args.months c.in-Ok.span self is on in
    let found = months_found c.args.self c.args.months c.in-Ok-checked_add.date self number in
    let same = same_day c.of.result (months_after c.args.self c.args.months) (same_pos _ _ _ c.of.ensures.year found.year) (c.of.ensures.month ∙ found.month) (c.of.ensures.day ∙ found.day) in
    ap (λ d. Some d) same ∙ sym (to_year_in (months_after c.args.self c.args.months) found.last)

pub returns-in-Err-clause-value : goal.returns-in-Err-clause-value
returns-in-Err-clause-value c =
    let self : IsDay c.args.self = search rules in
    let is : IsDateOf c.args.self c.date.result = record { year = c.date.ensures.year; month = c.date.ensures.month; day = c.date.ensures.day } in
    let on = by_months c.args.months _ c.new.result c.in-Ok.span c.new.ensures c.in-Ok.ensures.value (omega (arith, ints, c.requires)) in
    sym (to_year_past (months_after c.args.self c.args.months) (no_months c.args.self c.date.result c.args.months c.in-Ok.span self is on
    (λ fits. false≢true (c.in-Err.ensures.succeeds.1 fits))))
