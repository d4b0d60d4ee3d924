use Rattle.std.proofs.Common.{◌≡◌, map, arith}
use Rattle.std.proofs.lemmas.Grind.{common_steps}
use Rattle.org_merge.specs.Merge.{read_made, read_source}
use Rattle.org_merge.proofs.ReadFiles.{accounted_same}
use Rattle.org_merge.proofs.accounted.account_draft.Goals as goal

pub returns : goal.returns
returns c =
    let em : map read_source c.as_slice-2.result.now ≡ map read_made c.args.draft.now.files.items = grind (arith, common_steps) in
    let er : c.as_slice-4.result.now ≡ c.args.draft.now.report.items = grind (arith, common_steps) in
    accounted_same c.args.states.now c.args.base.now c.args.ours.now c.args.theirs.now _ _ _ _ em er c.in_ok-account.ensures
