use Rattle.org_splice.specs.Texts.{settled}
use Rattle.org_texts.specs.Held.{HeldText}
use Rattle.org_texts.proofs.Values.{Copied}
use Rattle.org_texts.proofs.texts.Texts.settle.Given as goal

-- the texts so far are the disk's
abbrev pub invariant-loop-place : goal.invariant-loop-place
invariant-loop-place l = record {
  now : Copied (λ (h : HeldText). h.text) (λ (h : HeldText). settled h.text.bytes) l.self-inside.held.entries l.initial.self-inside.held.entries l.place;
  before : Copied (λ (h : HeldText). h.before) (λ (h : HeldText). settled h.text.bytes) l.self-inside.held.entries l.initial.self-inside.held.entries l.place;
}
