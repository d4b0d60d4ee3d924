-- Edits of a part of a text are edits of the text.
use Rattle.std.proofs.Common.{◌≡◌, ℕ, zero, suc, ◌+◌, ◌-◌, ◌<◌, ◌≤◌, ◌++◌, List, [], ◌∷◌, length, take, drop, get_or, sym, ◌∙◌, ap, subst, arith, add-one, append_assoc}
use Rattle.std.proofs.lemmas.Grind.{common_steps}
use Rattle.std.specs.Prelude.{slice_range}
use Rattle.std.proofs.lemmas.List.{take-append-drop, length-take-le}
use Rattle.std.proofs.Math.Seq.{drop-drop}
use Rattle.org_splice.specs.declared.Span.{Span}
use Rattle.org_splice.specs.Edits.{edited}
use Rattle.org_splice.specs.Ranges.{AreChanged, changed_by}
use Rattle.org_splice.specs.Texts.{EditedText, spliced, spliced_each}
use Rattle.org_splice.specs.declared.edit.Edit.{Edit}
use Rattle.org_splice.specs.Versions.{text_of_parts}
use Rattle.org_splice.proofs.Apart.{LieApart-wider}
use Rattle.org_splice.proofs.Applying.{AreChanged-spliced}
use Rattle.org_splice.proofs.Edited.{AreChanged-changed_by, length-spliced}
use Rattle.org_splice.proofs.Places.{edits_in_place}

-- ranges of a text are ranges of a longer one
pub AreChanged-wider : (size wider : ℕ) (ranges : List Span) → size ≤ wider → AreChanged size ranges → AreChanged wider ranges
AreChanged-wider size wider ranges more are = record { apart = LieApart-wider 0 size wider ranges more are.apart; few = are.few }

-- what the code has of the changed ranges after a splice, by parts that are equal
pub changed_are : (at removed added size : ℕ) (text : List ℕ) (ranges kept new : List Span) → kept ≡ ranges → size ≡ length text - removed + added → new ≡ changed_by at removed added size kept
    → new ≡ changed_by at removed added (length text - removed + added) ranges
changed_are at removed added size text ranges kept new same long made =
    made ∙ ap (λ (r : List Span). changed_by at removed added size r) same ∙ ap (λ (n : ℕ). changed_by at removed added n ranges) long

pub AreChanged-made : (at removed added : ℕ) (text : List ℕ) (ranges new : List Span) → at + removed ≤ length text → AreChanged (length text) ranges → new ≡ changed_by at removed added (length text - removed + added) ranges
    → AreChanged (length text - removed + added) new
AreChanged-made at removed added text ranges new within are made =
    subst (AreChanged (length text - removed + added)) (sym made) (AreChanged-changed_by at removed added (length text) within ranges are)

pub changed_with : (at removed added size : ℕ) (bytes : List ℕ) (ranges kept made new : List Span) → new ≡ made → made ≡ changed_by at removed added size kept → added ≡ length bytes → kept ≡ ranges
    → new ≡ changed_by at removed (length bytes) size ranges
changed_with at removed added size bytes ranges kept made new is with long same =
    is ∙ with ∙ ap (λ (n : ℕ). changed_by at removed n size kept) long ∙ ap (λ (r : List Span). changed_by at removed (length bytes) size r) same

-- a part stands for itself
pub edited_same : (start end : ℕ) (text : List ℕ) → start ≤ end → edited start (end - start) (slice_range text start end) text ≡ text
edited_same start end text ordered =
    let n = end - start in
    append_assoc (take start text) (take n (drop start text)) (drop (start + n) text)
    ∙ ap (λ (l : List ℕ). take start text ++ (take n (drop start text) ++ l)) (sym (drop-drop n start text))
    ∙ ap (λ (l : List ℕ). take start text ++ l) (take-append-drop n (drop start text))
    ∙ take-append-drop start text

-- the next of the edits is made
next : (i : ℕ) (es : List Edit) (e : Edit) (before after final : EditedText) → i < length es → e ≡ get_or es i e → after ≡ spliced e.at e.removed e.bytes before → spliced_each (drop i es) before ≡ final
    → spliced_each (drop (suc i) es) after ≡ final
next i [] e before after final more same made all = absurd (omega arith)
next zero (x ∷ es) e before after final more same made all = ap (spliced_each es) (made ∙ ap (λ (e : Edit). spliced e.at e.removed e.bytes before) same) ∙ all
next (suc i) (x ∷ es) e before after final more same made all = next i es e before after final (omega (arith, more)) same made all

pub next_edit : (i : ℕ) (es : List Edit) (e : Edit) (before after final : EditedText) → i < length es → e ≡ get_or es i e → after ≡ spliced e.at e.removed e.bytes before → spliced_each (drop i es) before ≡ final
    → spliced_each (drop (i + 1) es) after ≡ final
next_edit i es e before after final more same made all =
    subst (λ (k : ℕ). spliced_each (drop k es) after ≡ final) (sym (add-one i)) (next i es e before after final more same made all)

-- a part of a text, `removed` bytes from `start` on, for which a window stands, and an edit within
module _ (text window bytes new : List ℕ) (start removed at gone : ℕ) (part_in : start + removed ≤ length text) (behind : start ≤ at) (within : at - start + gone ≤ length window) (made : new ≡ edited (at - start) gone bytes window) where
  -- the edit of the window is one of the text
  pub same_edit : edited start removed new text ≡ edited at gone bytes (edited start removed window text)
  same_edit =
      let a = take start text in
      let c = drop (start + removed) text in
      let long : length a ≡ start = length-take-le start text (omega (arith, part_in)) in
      let place : length a + (at - start) ≡ at = omega (arith, long, behind) in
      ap (λ (w : List ℕ). a ++ w ++ c) made
      ∙ append_assoc a (edited (at - start) gone bytes window) c
      ∙ sym (edits_in_place a window c (at - start) gone bytes within)
      ∙ ap (λ (t : List ℕ). edited (length a + (at - start)) gone bytes t) (sym (append_assoc a window c))
      ∙ ap (λ (n : ℕ). edited n gone bytes (edited start removed window text)) place

  pub edit_in : at + gone ≤ length (edited start removed window text)
  edit_in = omega (arith, part_in, behind, within, length-spliced start removed window text part_in)

  -- it makes the same text and the same changed ranges
  pub same_splice : (size : ℕ) (ranges changed : List Span) → size ≡ length text - removed + length new → changed ≡ changed_by at gone (length bytes) size ranges
      → text_of_parts (edited start removed new text) changed ≡ spliced at gone bytes (text_of_parts (edited start removed window text) ranges)
  same_splice size ranges changed long with = grind (arith, common_steps, length-spliced, same_edit, edit_in, changed_by)

  pub stay_changed : (size : ℕ) (ranges changed : List Span) → size ≡ length text - removed + length new → changed ≡ changed_by at gone (length bytes) size ranges
      → AreChanged (length (edited start removed window text)) ranges → AreChanged (length (edited start removed new text)) changed
  stay_changed size ranges changed long with are =
      subst (λ t. AreChanged (length t.bytes) t.changed) (sym (same_splice size ranges changed long with)) (AreChanged-spliced at gone bytes (text_of_parts (edited start removed window text) ranges) edit_in are)
