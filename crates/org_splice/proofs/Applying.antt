-- Edits made of a text, one after another.
use Rattle.std.proofs.Common.{rules, arith, ◌≡◌, ℕ, ◌+◌, ◌≤◌, List, [], ◌∷◌, length, refl, sym, subst}
use Rattle.org_splice.specs.declared.edit.Edit.{Edit}
use Rattle.org_splice.specs.Edits.{applied, applied_each, AreEdits, CanApply}
use Rattle.org_splice.specs.Ranges.{AreChanged}
use Rattle.org_splice.specs.Texts.{EditedText, IsEditOf, spliced, spliced_each}
use Rattle.org_splice.proofs.Edited.{AreChanged-changed_by, IsEditOf-spliced, length-spliced}

-- edits that make one text of another can be made of it, and make it
pub AreEdits-applied : (es : List Edit) (old new : List ℕ) → AreEdits es old new → new ≡ applied_each es old
AreEdits-applied [] old new a = sym a
AreEdits-applied (e ∷ es) old new a = AreEdits-applied es (applied e old) new a.2

pub AreEdits-can : (es : List Edit) (old new : List ℕ) → AreEdits es old new → CanApply es old
AreEdits-can es old new a = let P : List ℕ → Type 0 = λ t. AreEdits es old t in subst P (AreEdits-applied es old new a) a

-- they make the same of its bytes
pub spliced_each-bytes : (es : List Edit) (text : EditedText) → (spliced_each es text).bytes ≡ applied_each es text.bytes
spliced_each-bytes [] text = refl
spliced_each-bytes (e ∷ es) text = spliced_each-bytes es (spliced e.at e.removed e.bytes text)

-- a splice keeps the changed ranges those of the text
pub AreChanged-spliced : (at removed : ℕ) (bytes : List ℕ) (text : EditedText) → at + removed ≤ length text.bytes → AreChanged (length text.bytes) text.changed
    → AreChanged (length (spliced at removed bytes text).bytes) (spliced at removed bytes text).changed
AreChanged-spliced at removed bytes text within are = search (rules, arith, length-spliced, AreChanged-changed_by)

-- what edits make of a text is an edit of what it was made from
pub IsEditOf-spliced_each : (es : List Edit) (old : List ℕ) (text : EditedText) → CanApply es text.bytes → AreChanged (length text.bytes) text.changed → IsEditOf old text
    → IsEditOf old (spliced_each es text) × AreChanged (length (spliced_each es text).bytes) (spliced_each es text).changed
IsEditOf-spliced_each [] old text can are edit = (edit, are)
IsEditOf-spliced_each (e ∷ es) old text can are edit =
    IsEditOf-spliced_each es old (spliced e.at e.removed e.bytes text) can.2 (AreChanged-spliced e.at e.removed e.bytes text can.0 are) (IsEditOf-spliced old e.at e.removed e.bytes text can.0 are edit)
