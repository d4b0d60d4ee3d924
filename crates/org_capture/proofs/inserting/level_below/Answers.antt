use Rattle.std.proofs.Common.{ℕ, List, length, ap, arith}
use Rattle.org_capture.proofs.Insertions.{level_room}
use Rattle.org_capture.proofs.inserting.level_below.Goals as goal

pub prove-unreachable-requires : goal.prove-unreachable-requires
prove-unreachable-requires c =
    let text : List ℕ = c.args.outline.now.text in
    omega (arith, level_room text c.in-Some.node c.text.ensures.terminated (c.requires c.in-Some.node c.in-Some.is), c.level-level.ensures.value, ap length c.text.ensures.value)
