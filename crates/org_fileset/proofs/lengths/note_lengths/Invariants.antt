use Rattle.std.proofs.Common.{◌≡◌, drop}
use Rattle.org_fileset.specs.Lengths.{with_lengths}
use Rattle.org_fileset.proofs.lengths.note_lengths.Given as goal

-- the entries that are left make what all of them make
abbrev pub invariant-loop-entry : goal.invariant-loop-entry
invariant-loop-entry l = with_lengths l.names l.lengths (drop l.entry-index l.entries) ≡ with_lengths l.names l.fn.lengths l.entries
