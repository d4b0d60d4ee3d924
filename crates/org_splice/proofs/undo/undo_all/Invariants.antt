use Rattle.std.proofs.Common.{◌≡◌, length, vec_len, vec_capacity}
use Rattle.org_splice.specs.Ranges.{AreChanged}
use Rattle.org_splice.specs.Versions.{AreUndos, undone_all}
use Rattle.org_splice.proofs.undo.undo_all.Given as goal

-- with what is still to be taken back the text comes to the same, and there is room for it
abbrev pub invariant-loop-undo : goal.invariant-loop-undo
invariant-loop-undo l = record {
  same : undone_all l.undos.items (record { bytes = l.bytes.items; changed = l.changed.items })
      ≡ undone_all l.fn.undos.items (record { bytes = l.fn.bytes.items; changed = l.fn.changed.items });
  can : AreUndos (vec_capacity l.bytes) l.undos.items (record { bytes = l.bytes.items; changed = l.changed.items });
  changed : AreChanged (length l.bytes.items) l.changed.items;
}

abbrev pub decreases-loop-undo : goal.decreases-loop-undo
decreases-loop-undo l = vec_len l.undos
