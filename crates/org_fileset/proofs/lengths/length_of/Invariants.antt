use Rattle.std.proofs.Common.{◌≡◌, drop}
use Rattle.org_fileset.specs.Lengths.{length_of}
use Rattle.org_fileset.proofs.lengths.length_of.Given as goal

-- the names so far are others
abbrev pub invariant-loop-index : goal.invariant-loop-index
invariant-loop-index l = length_of (drop l.index l.names) (drop l.index l.lengths) l.name ≡ length_of l.names l.lengths l.name
