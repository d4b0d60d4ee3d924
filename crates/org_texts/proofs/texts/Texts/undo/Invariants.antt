use Rattle.std.proofs.Common.{◌≡◌}
use Rattle.org_texts.specs.Held.{HeldText}
use Rattle.org_texts.proofs.Values.{Copied}
use Rattle.org_texts.proofs.texts.Texts.undo.Given as goal

-- the texts so far are as they were
abbrev pub invariant-loop-place : goal.invariant-loop-place
invariant-loop-place l = record {
  now : Copied (λ (h : HeldText). h.text) (λ (h : HeldText). h.before) l.self-inside.held.entries l.initial.self-inside.held.entries l.place;
  dirty : l.self-inside.dirty.keys ≡ l.initial.self-inside.dirty.keys;
  first : l.self-inside.dirty_before ≡ l.initial.self-inside.dirty_before;
}
