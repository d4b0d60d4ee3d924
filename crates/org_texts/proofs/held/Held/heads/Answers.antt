use Rattle.std.proofs.Common.{◌≡◌, ◌∙◌, List, ℕ, is_some, sym, ap, subst, true≢false}
use Rattle.org_splice.specs.Lines.{terminated}
use Rattle.org_texts.specs.Held.{HeldText}
use Rattle.org_texts.proofs.Heads.{ready-ends, ready-open}
use Rattle.org_texts.proofs.held.Held.heads.Goals as goal

pub returns-then-is_terminated-clause-ready : goal.returns-then-is_terminated-clause-ready
returns-then-is_terminated-clause-ready c =
    let held = c.self.inside in
    let ends = subst (λ (t : List ℕ). terminated t ≡ t) c.bytes.ensures.bytes (c.is_terminated.ensures.0 c.if-is_terminated.true) in
    c.as_ref.ensures.variant ∙ sym (ready-ends (is_some held.heads) held.text.text.bytes ends) ∙ ap (λ (h : HeldText). h.ready) c.self.view_is

pub returns-else-is_terminated-clause-ready : goal.returns-else-is_terminated-clause-ready
returns-else-is_terminated-clause-ready c =
    let held = c.self.inside in
    let open_end : terminated held.text.text.bytes ≡ held.text.text.bytes → ⊥ = λ ends.
    let yes = c.is_terminated.ensures.1 (subst (λ (t : List ℕ). terminated t ≡ t) (sym c.bytes.ensures.bytes) ends) in
    true≢false (sym yes ∙ c.if-is_terminated.false) in
    sym (ready-open (is_some held.heads) held.text.text.bytes open_end) ∙ ap (λ (h : HeldText). h.ready) c.self.view_is
