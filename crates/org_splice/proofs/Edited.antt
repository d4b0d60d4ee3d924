-- A splice keeps what is known of a text: its ranges stay apart and few, and it stays an edit of
-- what it was made from.
use Rattle.std.proofs.Common.{◌≡◌, ◌⊎◌, inl, inr, ⊎_elim, ℕ, ◌+◌, ◌-◌, ◌<◌, ◌≤◌, ◌++◌, eqb, List, length, get_or, take, drop, Some, sym, ◌∙◌, ap, arith, length-append, length-drop, length-take}
use Rattle.std.proofs.lemmas.Grind.{common_steps}
use Rattle.std.proofs.lemmas.Bool.{eqb-true, cond_both}
use Rattle.std.proofs.lemmas.Option.{slice_get-get_or}
use Rattle.org_splice.specs.declared.Span.{Span}
use Rattle.org_splice.specs.Ranges.{AreChanged, IsUnchanged, cut_at, own_range, changed_by}
use Rattle.org_splice.specs.Texts.{EditedText, IsEditOf, spliced}
use Rattle.org_splice.proofs.Overwritten.{overwritten-outside}
use Rattle.org_splice.proofs.Apart.{LieApart-cut_at, IsUnchanged-cut_at, length-cut_at, LieApart-with_range, IsUnchanged-with_range, length-with_range}

module _ (at removed added old_size : ℕ) (within : at + removed ≤ old_size) where
  size : ℕ
  size = old_size - removed + added

  own : Span
  own = own_range at removed added size

  own_rises : own.start ≤ own.end
  unfolding own size
  own_rises = cond_both (eqb removed added) (at + added) (old_size - removed + added) (λ end. at ≤ end) (λ same. omega arith) (λ other. omega (arith, within))

  own_within : own.end ≤ size
  unfolding own size
  own_within = cond_both (eqb removed added) (at + added) (old_size - removed + added) (λ end. end ≤ old_size - removed + added) (λ same. omega (arith, within)) (λ other. omega arith)

  pub AreChanged-changed_by : (ranges : List Span) → AreChanged old_size ranges → AreChanged (old_size - removed + added) (changed_by at removed added (old_size - removed + added) ranges)
  unfolding own size
  AreChanged-changed_by ranges are = grind (arith, common_steps, LieApart-cut_at, LieApart-with_range, cut_at, own_rises, own_within, length-with_range, length-cut_at)

  -- a position that stays outside the changed ranges is outside them before, and lies before the
  -- splice, or after one that keeps the length
  pub IsUnchanged-changed_by : (ranges : List Span) (i : ℕ) → AreChanged old_size ranges → i < old_size - removed + added → IsUnchanged (changed_by at removed added (old_size - removed + added) ranges) i
      → ((i < at) ⊎ ((removed ≡ added) × (at + added ≤ i))) × IsUnchanged ranges i
  unfolding own size
  IsUnchanged-changed_by ranges i are below outside =
      let kept = LieApart-cut_at 0 old_size (old_size - removed + added) ranges are.apart in
      let both = IsUnchanged-with_range (old_size - removed + added) (own_range at removed added (old_size - removed + added)) (cut_at (old_size - removed + added) ranges) i own_rises own_within kept outside in (
        ⊎_elim (λ before. inl before)
            (cond_both (eqb removed added) (at + added) (old_size - removed + added) (λ end. end ≤ i → (i < at) ⊎ ((removed ≡ added) × (at + added ≤ i)))
            (λ same behind. inr (eqb-true removed added same, behind)) (λ other behind. absurd (omega (arith, below, behind))))
            both.0,
        IsUnchanged-cut_at (old_size - removed + added) ranges i below both.1,
      )

pub length-spliced : (at removed : ℕ) (bytes text : List ℕ) → at + removed ≤ length text → length (take at text ++ bytes ++ drop (at + removed) text) ≡ length text - removed + length bytes
length-spliced at removed bytes text within =
    omega (arith, within, length-append (take at text ++ bytes) (drop (at + removed) text), length-append (take at text) bytes, length-drop (at + removed) text, length-take at text)

-- what a splice leaves where it was
spliced-same : (at removed : ℕ) (bytes text : List ℕ) (i : ℕ) → at + removed ≤ length text → (i < at) ⊎ ((removed ≡ length bytes) × (at + length bytes ≤ i)) → get_or (take at text ++ bytes ++ drop (at + removed) text) i 0 ≡ get_or text i 0
spliced-same at removed bytes text i within (inl before) = grind (arith, common_steps)
spliced-same at removed bytes text i within (inr behind) =
    ap (λ (n : ℕ). get_or (take at text ++ bytes ++ drop (at + n) text) i 0) behind.0 ∙ overwritten-outside at bytes text i (omega (arith, within)) (inr behind.1)

pub IsEditOf-spliced : (old : List ℕ) (at removed : ℕ) (bytes : List ℕ) (text : EditedText) → at + removed ≤ length text.bytes → AreChanged (length text.bytes) text.changed → IsEditOf old text → IsEditOf old (spliced at removed bytes text)
IsEditOf-spliced old at removed bytes text within are edit = record {
  same = λ i below outside.
      let long = length-spliced at removed bytes text.bytes within in
      let kept = IsUnchanged-changed_by at removed (length bytes) (length text.bytes) within text.changed i are (omega (arith, below, long)) outside in
      let inside : i < length text.bytes = ⊎_elim (λ before. omega (arith, before, within)) (λ behind. omega (arith, below, long, behind.0, within)) kept.0 in
      edit.same i inside kept.1
      ∙ slice_get-get_or text.bytes i 0 inside
      ∙ ap (λ (b : ℕ). Some b) (sym (spliced-same at removed bytes text.bytes i within kept.0))
      ∙ sym (slice_get-get_or (take at text.bytes ++ bytes ++ drop (at + removed) text.bytes) i 0 below);
}
