use Rattle.std.proofs.Common.{◌≡◌, arith}
use Rattle.std.proofs.lemmas.Grind.{common_steps}
use Rattle.org_account.specs.Units.{units_of}
use Rattle.org_account.specs.Place.{IsPlaceIn, counts_of}
use Rattle.org_account.proofs.Accounts.{units_by, place_by}
use Rattle.org_account.proofs.account.check_merge.Goals as goal

pub returns-clause-ok : goal.returns-clause-ok
returns-clause-ok c =
    let files = c.args.files.now in
    let base : c.as_slice.result.now ≡ units_of files.base.now = grind (arith, common_steps) in
    let ours : c.as_slice-2.result.now ≡ units_of files.ours.now = grind (arith, common_steps) in
    let theirs : c.as_slice-3.result.now ≡ units_of files.theirs.now = grind (arith, common_steps) in
    let merged : c.as_slice-4.result.now ≡ units_of files.merged.now = grind (arith, common_steps) in
    record {
      report_told = c.is_report.ensures c.if-not-is_report.false;
      of = c.in_ok-of.of;
      states_are = c.in_ok-of.ensures.states;
      rows = c.in_ok-check_rows.ensures.ok;
      units = units_by c.in_ok-of.of _ _ _ _ files.base.now files.ours.now files.theirs.now files.merged.now base ours theirs merged c.in_ok-of.ensures.units;
    }

pub returns-in_err-of-clause-place : goal.returns-in_err-of-clause-place
returns-in_err-of-clause-place c =
    let files = c.args.files.now in
    let base : c.as_slice.result.now ≡ units_of files.base.now = grind (arith, common_steps) in
    let ours : c.as_slice-2.result.now ≡ units_of files.ours.now = grind (arith, common_steps) in
    let theirs : c.as_slice-3.result.now ≡ units_of files.theirs.now = grind (arith, common_steps) in
    let merged : c.as_slice-4.result.now ≡ units_of files.merged.now = grind (arith, common_steps) in
    let here : IsPlaceIn c.args.table.now files.base.now files.ours.now files.theirs.now files.merged.now c.in_err-of.field-0.0 =
    place_by c.args.table.now _ _ _ _ files.base.now files.ours.now files.theirs.now files.merged.now c.in_err-of.field-0.0 base ours theirs merged c.in_err-of.ensures.place in
    grind (arith, common_steps)

pub returns-in_err-check_rows-clause-place : goal.returns-in_err-check_rows-clause-place
returns-in_err-check_rows-clause-place c =
    let files = c.args.files.now in
    let counts = counts_of (units_of files.base.now) (units_of files.ours.now) (units_of files.theirs.now) (units_of files.merged.now) in
    let here : IsPlaceIn c.args.table.now files.base.now files.ours.now files.theirs.now files.merged.now c.in_err-check_rows.field-0.0 = c.in_err-check_rows.ensures.place counts in
    grind (arith, common_steps)
