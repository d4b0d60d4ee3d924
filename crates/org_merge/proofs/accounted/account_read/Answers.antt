use Rattle.std.proofs.Common.{◌≡◌, map, arith}
use Rattle.std.proofs.lemmas.Grind.{common_steps}
use Rattle.org_merge.specs.Merge.{file_of}
use Rattle.org_merge.proofs.ReadFiles.{account_of_same}
use Rattle.org_merge.proofs.accounted.account_read.Goals as goal

pub returns : goal.returns
returns c =
    let eb : c.as_slice.result.now ≡ map file_of c.args.base.now = grind (arith, common_steps) in
    let eo : c.as_slice-2.result.now ≡ map file_of c.args.ours.now = grind (arith, common_steps) in
    let et : c.as_slice-3.result.now ≡ map file_of c.args.theirs.now = grind (arith, common_steps) in
    let em : c.as_slice-4.result.now ≡ map file_of c.args.merged.now = grind (arith, common_steps) in
    account_of_same c.args.states.now c.args.rows.now c.args.report.now _ _ _ _ _ _ _ _ eb eo et em c.in_ok-account_lent.ensures
