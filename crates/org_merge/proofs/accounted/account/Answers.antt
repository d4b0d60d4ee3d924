use Rattle.std.proofs.Common.{◌≡◌, map, arith}
use Rattle.std.proofs.lemmas.Grind.{common_steps}
use Rattle.org_merge.specs.Merge.{file_of, read_source}
use Rattle.org_merge.proofs.ReadFiles.{accounted_by}
use Rattle.org_merge.proofs.accounted.account.Goals as goal

pub returns : goal.returns
returns c =
    let eb : map file_of c.as_slice.result.now ≡ map read_source c.args.base.now = grind (arith, common_steps) in
    let eo : map file_of c.as_slice-2.result.now ≡ map read_source c.args.ours.now = grind (arith, common_steps) in
    let et : map file_of c.as_slice-3.result.now ≡ map read_source c.args.theirs.now = grind (arith, common_steps) in
    let em : map file_of c.as_slice-4.result.now ≡ map read_source c.args.merged.now = grind (arith, common_steps) in
    accounted_by c.args.states.now c.as_slice-5.result.now c.args.report.now _ _ _ _ c.args.base.now c.args.ours.now c.args.theirs.now _ eb eo et em c.in_ok-account_read.ensures
