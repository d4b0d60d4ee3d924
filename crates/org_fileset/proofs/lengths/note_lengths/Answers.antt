use Rattle.std.proofs.Common.{◌∙◌, ◌+◌, ap, sym, drop, List, ℕ}
use Rattle.org_fileset.specs.Lengths.{with_lengths}
use Rattle.org_fileset.proofs.Noted.{entries_left, entries_none}
use Rattle.org_fileset.proofs.lengths.note_lengths.Goals as goal

pub loop-entry-preserved : goal.loop-entry-preserved
loop-entry-preserved c =
    ap (λ (l : List ℕ). with_lengths c.args.names.now l (drop (c.loop-entry.entry-index + 1) c.args.entries.now)) c.note_length.ensures
    ∙ entries_left c.args.names.now c.loop-entry.lengths c.args.entries.now c.loop-entry.entry-index c.entry-item.result c.loop-entry-test.true c.entry-item.is ∙ c.loop-entry.invariant

pub returns : goal.returns
returns c = sym (entries_none c.args.names.now c.loop-entry.lengths c.args.entries.now c.loop-entry.entry-index c.loop-entry-test.false) ∙ c.loop-entry.invariant
