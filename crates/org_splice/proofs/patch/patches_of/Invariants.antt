use Rattle.std.proofs.Common.{◌≡◌, map, take}
use Rattle.org_splice.specs.Texts.{patch_of, pairs_of}
use Rattle.org_splice.proofs.patch.patches_of.Given as goal

-- the patches of the ranges so far
abbrev pub invariant-loop-range : goal.invariant-loop-range
invariant-loop-range l = pairs_of l.patches.items ≡ map (patch_of l.text) (take l.range-index l.changed)
