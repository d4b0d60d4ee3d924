use Rattle.std.proofs.Common.{◌++◌, List, ℕ, refl, sym, ap, ◌∙◌, arith}
use Rattle.std.specs.Prelude.{is_some}
use Rattle.std.proofs.lemmas.Bool.{false≢true}
use Rattle.std.proofs.lemmas.Result.{err_from_is_err_and}
use Rattle.org_meta.specs.Clocking.{closing_text}
use Rattle.org_meta.proofs.Closing.{ends_within, line_runs, closes_backwards, closes_at, starved}
use Rattle.org_meta.proofs.clocking.close_clock.Goals as goal

pub slice_bounds-text-end : goal.slice_bounds-text-end
slice_bounds-text-end c =
    let h = c.requires in
    omega (arith, ends_within c.args.section.bytes.now c.args.line h.before h.line h.after c.args.section.whole h.is)

pub unreachable-requires : goal.unreachable-requires
unreachable-requires c =
    let runs = line_runs c.args.section.bytes.now c.args.line _ c.args.section.whole c.requires refl in
    absurd (false≢true (ap is_some (sym c.in_default.is ∙ c.running_clock.ensures.value) ∙ runs))

pub returns-in_default-minutes_between-clause-err : goal.returns-in_default-minutes_between-clause-err
returns-in_default-minutes_between-clause-err c =
    let runs = sym c.in-Some.is ∙ c.running_clock.ensures.value in
    let none = sym c.in_default-minutes_between.is ∙ c.minutes_between.ensures in
    λ before line after is. closes_backwards c.args.section.bytes.now c.args.line before line after c.args.section.whole is c.args.now c.in-Some.running _ refl runs none

pub returns-in_err-push_closing-clause-err : goal.returns-in_err-push_closing-clause-err
returns-in_err-push_closing-clause-err c =
    let p = err_from_is_err_and c.from_residual.result c.from_residual.ensures.1 in
    let runs = sym c.in-Some.is ∙ c.running_clock.ensures.value in
    let some = sym c.in-Some-minutes_between.is ∙ c.minutes_between.ensures in
    rw p.1 (starved c.args.section.bytes.now c.args.line c.args.now c.in-Some.running _ c.in-Some-minutes_between.minutes p.0 c.args.section.whole p.2 refl runs some)

pub returns-clause-ok : goal.returns-clause-ok
returns-clause-ok c =
    let runs = sym c.in-Some.is ∙ c.running_clock.ensures.value in
    let some = sym c.in-Some-minutes_between.is ∙ c.minutes_between.ensures in
    let bytes = c.new.ensures ∙ c.in_ok-push_closing.ensures ∙ ap (λ (t : List ℕ). t ++ closing_text c.args.now c.in-Some-minutes_between.minutes) c.new-bytes.ensures.items in
    λ before line after is. closes_at c.args.section.bytes.now c.args.line before line after c.args.section.whole is c.args.now c.in-Some.running _ refl runs _ c.in-Some-minutes_between.minutes some c.in-Some.ensures.within refl refl bytes
