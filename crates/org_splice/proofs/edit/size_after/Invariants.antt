use Rattle.std.proofs.Common.{◌≡◌, ◌+◌, ◌≤◌, ℕ, List, length, drop}
use Rattle.std.specs.Prelude.{sum_by}
use Rattle.org_splice.specs.Edits.{CanApply, applied_each}
use Rattle.org_splice.proofs.edit.size_after.Given as goal

-- the size so far is that of a text of which the other edits can be made
abbrev pub invariant-loop-edit : goal.invariant-loop-edit
invariant-loop-edit l = record {
  size : (text : List ℕ) → length text ≡ l.fn.size → CanApply l.edits text
      → (now : List ℕ) × (length now ≡ l.size) × CanApply (drop l.edit-index l.edits) now × (applied_each (drop l.edit-index l.edits) now ≡ applied_each l.edits text);
  room : l.size + sum_by (λ edit. length edit.bytes) (drop l.edit-index l.edits) ≤ l.fn.size + sum_by (λ edit. length edit.bytes) l.edits;
}
