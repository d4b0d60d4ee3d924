use Rattle.std.proofs.Common.{◌≡◌, take}
use Rattle.org_fileset.specs.Lengths.{with_length}
use Rattle.org_fileset.proofs.lengths.note_length.Given as goal

-- the names so far were compared
abbrev pub invariant-loop-index : goal.invariant-loop-index
invariant-loop-index l = l.lengths ≡ with_length (take l.index l.names) l.fn.lengths l.name l.length
