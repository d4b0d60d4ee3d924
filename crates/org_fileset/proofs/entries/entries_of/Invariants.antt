use Rattle.std.proofs.Common.{take}
use Rattle.org_fileset.specs.Entries.{AreEntriesOf, SaySizes}
use Rattle.org_fileset.specs.Lengths.{length_of}
use Rattle.org_fileset.proofs.entries.entries_of.Given as goal

-- the entries so far are those of the changes so far
abbrev pub invariant-loop-index : goal.invariant-loop-index
invariant-loop-index g l = record {
  are : AreEntriesOf (take l.index (g.C.Changes.pairs l.changes)) l.entries.items;
  sizes : SaySizes (length_of l.names l.lengths) l.entries.items;
}
