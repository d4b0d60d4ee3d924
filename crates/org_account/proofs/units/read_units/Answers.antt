use Rattle.std.proofs.Common.{◌≡◌, ◌<◌, length, ◌∙◌, arith}
use Rattle.std.proofs.lemmas.Grind.{common_steps}
use Rattle.org_account.proofs.Files.{file_more}
use Rattle.org_account.proofs.units.read_units.Goals as goal

pub loop-file-preserved : goal.loop-file-preserved
loop-file-preserved c =
    let lt : c.loop-file.file-index < length c.args.files.now = omega arith in
    let long : c.len-at.result ≡ length c.loop-file.units.items = grind (arith, common_steps) in
    file_more c.loop-file.file-index c.args.files.now c.file-item.result c.len-at.result _ _ c.in_ok-outline.outline.text c.loop-file.units.items _ _ lt c.file-item.is
    c.loop-file.invariant long c.name.ensures (c.in_ok-outline.ensures.0 ∙ c.text.ensures.value) c.preamble.ensures c.in_ok-push.ensures.items c.in_ok-push_entries.ensures.ok
