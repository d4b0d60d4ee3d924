use Rattle.std.proofs.Common.{arith}
use Rattle.org_move.proofs.Made.{level_less}
use Rattle.org_move.proofs.refile.level_of.Goals as goal

pub prove-unreachable-requires : goal.prove-unreachable-requires
prove-unreachable-requires c =
    omega (arith, c.if-prove.true, level_less _ _ _ _ c.text-end.ensures.value c.text-end.ensures.terminated c.requires c.level-level.ensures.value)
