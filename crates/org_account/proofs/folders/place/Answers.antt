use Rattle.std.proofs.Common.{refl, arith}
use Rattle.std.proofs.lemmas.Grind.{common_steps}
use Rattle.org_account.specs.Place.{IsPlace, counts_of}
use Rattle.org_account.proofs.folders.place.Goals as goal

pub returns-clause-table : goal.returns-clause-table
returns-clause-table c = record { base = c.in_ok-base.ensures.indexed; ours = c.in_ok-ours.ensures.indexed; theirs = c.in_ok-theirs.ensures.indexed; merged = c.in_ok-merged.ensures.indexed }

pub returns-clause-units : goal.returns-clause-units
returns-clause-units c = record { base_are = c.in_ok-base.ensures.units; ours_are = c.in_ok-ours.ensures.units; theirs_are = c.in_ok-theirs.ensures.units; merged_are = c.in_ok-merged.ensures.units }

pub returns-in_err-base-clause-place : goal.returns-in_err-base-clause-place
returns-in_err-base-clause-place c =
    let counts = counts_of c.args.base.now c.args.ours.now c.args.theirs.now c.args.merged.now in
    let here : IsPlace c.args.table.now counts c.in_err-base.field-0.0 = c.in_err-base.ensures.place counts refl in
    grind (arith, common_steps)

pub returns-in_err-ours-clause-place : goal.returns-in_err-ours-clause-place
returns-in_err-ours-clause-place c =
    let counts = counts_of c.args.base.now c.args.ours.now c.args.theirs.now c.args.merged.now in
    let here : IsPlace c.args.table.now counts c.in_err-ours.field-0.0 = c.in_err-ours.ensures.place counts refl in
    grind (arith, common_steps)

pub returns-in_err-theirs-clause-place : goal.returns-in_err-theirs-clause-place
returns-in_err-theirs-clause-place c =
    let counts = counts_of c.args.base.now c.args.ours.now c.args.theirs.now c.args.merged.now in
    let here : IsPlace c.args.table.now counts c.in_err-theirs.field-0.0 = c.in_err-theirs.ensures.place counts refl in
    grind (arith, common_steps)

pub returns-in_err-merged-clause-place : goal.returns-in_err-merged-clause-place
returns-in_err-merged-clause-place c =
    let counts = counts_of c.args.base.now c.args.ours.now c.args.theirs.now c.args.merged.now in
    let here : IsPlace c.args.table.now counts c.in_err-merged.field-0.0 = c.in_err-merged.ensures.place counts refl in
    grind (arith, common_steps)
