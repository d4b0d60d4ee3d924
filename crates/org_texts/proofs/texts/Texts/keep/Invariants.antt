use Rattle.std.proofs.Common.{◌≡◌}
use Rattle.org_texts.specs.Held.{HeldText}
use Rattle.org_texts.proofs.Values.{Copied}
use Rattle.org_texts.proofs.texts.Texts.keep.Given as goal

-- the edits so far are kept
abbrev pub invariant-loop-place : goal.invariant-loop-place
invariant-loop-place l = record {
  before : Copied (λ (h : HeldText). h.before) (λ (h : HeldText). h.text) l.self-inside.held.entries l.initial.self-inside.held.entries l.place;
  dirty : l.self-inside.dirty.keys ≡ l.initial.self-inside.dirty.keys;
}
