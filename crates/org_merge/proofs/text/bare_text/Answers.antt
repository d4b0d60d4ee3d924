use Rattle.std.proofs.Common.{◌≡◌, arith}
use Rattle.std.proofs.lemmas.Grind.{common_steps}
use Rattle.org_merge.specs.Reading.{as_read}
use Rattle.org_merge.proofs.ReadFiles.{bare_more, bare_whole}
use Rattle.org_merge.proofs.text.bare_text.Goals as goal

pub loop-left-preserved : goal.loop-left-preserved
loop-left-preserved c = bare_more c.loop-left.out.items _ c.loop-left.left.now c.first_line.result.1.now c.first_line.result.0.now _ c.first_line.ensures.lines c.in_ok-push_bare.ensures c.loop-left.invariant

pub returns-clause-whole : goal.returns-clause-whole
returns-clause-whole c =
    let value : c.loop-left.out.items ≡ as_read c.args.text.now = grind (arith, common_steps) in
    bare_whole _ c.args.text.now value
