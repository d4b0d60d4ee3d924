use Rattle.std.proofs.Common.{◌≡◌, ◌∙◌, ◌&&◌, Bool, true, false, is_some, refl, sym, ap, subst}
use Rattle.org_splice.specs.Lines.{is_terminated, lines_of, terminated}
use Rattle.org_splice.specs.Texts.{terminated_text}
use Rattle.org_splice.specs.Versions.{Versions, revised}
use Rattle.org_splice.proofs.Lines.{lines_of-terminated, terminated_twice}
use Rattle.org_headings.specs.Headings.{headings_of}
use Rattle.org_texts.specs.Held.{HeldText}
use Rattle.org_texts.proofs.Heads.{heads-of_lines, ready-ends, terminated_text-bytes}
use Rattle.org_texts.proofs.held.Held.make_ready.Goals as goal

abbrev viewed : Versions → Bool → HeldText
viewed v has = record { text = v.text; before = v.before; ready = has }

-- a text that was closed, with its headings, is ready
module _ (old new : Versions) (made : new ≡ revised old (terminated_text old.text)) where
  closed : new.text.bytes ≡ terminated old.text.bytes
  closed = ap (λ (v : Versions). v.text.bytes) made ∙ terminated_text-bytes old.text

  stays : terminated new.text.bytes ≡ new.text.bytes
  stays = ap terminated closed ∙ terminated_twice old.text.bytes ∙ sym closed

  same_lines : lines_of new.text.bytes ≡ lines_of old.text.bytes
  same_lines = ap lines_of closed ∙ lines_of-terminated old.text.bytes

  still : (edits : Bool) → (edits ≡ false → lines_of old.text.bytes ≡ lines_of old.before.bytes) → edits ≡ false → lines_of new.text.bytes ≡ lines_of new.before.bytes
  still edits was none = same_lines ∙ was none ∙ ap (λ (v : Versions). lines_of v.before.bytes) (sym made)

  ready : (some : Bool) (now : HeldText) → some ≡ true → (is : Bool) → viewed old is ≡ now → viewed new (some && is_terminated new.text.bytes) ≡ record { text = terminated_text now.text; before = now.before; ready = true }
  ready some now has is seen =
      subst (λ (h : HeldText). viewed new (some && is_terminated new.text.bytes) ≡ record { text = terminated_text h.text; before = h.before; ready = true }) seen
      (ap (viewed new) (ready-ends some new.text.bytes stays ∙ has) ∙ ap (λ (v : Versions). viewed v true) made)

pub invariant_of-self-then-is_some : goal.invariant_of-self-then-is_some
invariant_of-self-then-is_some c =
    let held = c.self.inside in
    let made = c.in_ok-terminate.ensures.ok in
    (heads-of_lines held.heads held.text.text.bytes c.terminate.new.self.text.bytes (same_lines held.text c.terminate.new.self made) c.self.invariant.0, still held.text c.terminate.new.self made held.has_edits c.self.invariant.1)

pub returns-then-is_some-clause-ok : goal.returns-then-is_some-clause-ok
returns-then-is_some-clause-ok c =
    let held = c.self.inside in
    ready held.text c.terminate.new.self c.in_ok-terminate.ensures.ok (is_some held.heads) c.args.self.now (sym c.is_some.ensures ∙ c.if-is_some.true) _ c.self.view_is

pub read-requires : goal.read-requires
read-requires c =
    let same = c.bytes.ensures.bytes in
    ap terminated same ∙ stays c.self.inside.text c.terminate.new.self c.in_ok-terminate.ensures.ok ∙ sym same

pub invariant_of-self-in_err-heads : goal.invariant_of-self-in_err-heads
invariant_of-self-in_err-heads c =
    let held = c.self.inside in
    let made = c.in_ok-terminate.ensures.ok in
    (heads-of_lines held.heads held.text.text.bytes c.terminate.new.self.text.bytes (same_lines held.text c.terminate.new.self made) c.self.invariant.0, still held.text c.terminate.new.self made held.has_edits c.self.invariant.1)

pub invariant_of-self-2 : goal.invariant_of-self-2
invariant_of-self-2 c =
    let held = c.self.inside in
    (c.in_ok-heads.ensures ∙ ap headings_of c.bytes.ensures.bytes, still held.text c.terminate.new.self c.in_ok-terminate.ensures.ok held.has_edits c.self.invariant.1)

pub returns-clause-ok : goal.returns-clause-ok
returns-clause-ok c = ready c.self.inside.text c.terminate.new.self c.in_ok-terminate.ensures.ok true c.args.self.now refl _ c.self.view_is
