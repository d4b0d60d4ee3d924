use Rattle.std.proofs.Common.{◌≡◌, drop}
use Rattle.org_splice.specs.Texts.{spliced_each}
use Rattle.org_texts.specs.Plan.{LieIn}
use Rattle.org_texts.proofs.held.Held.apply_each.Given as goal

-- the other edits can be made, and make the same
abbrev pub invariant-loop-edit : goal.invariant-loop-edit
invariant-loop-edit l = record {
  can : LieIn (drop l.edit-index l.edits) l.self.text.bytes;
  same : spliced_each (drop l.edit-index l.edits) l.self.text ≡ spliced_each l.edits l.initial.self.text;
  before : l.self.before ≡ l.initial.self.before;
}
