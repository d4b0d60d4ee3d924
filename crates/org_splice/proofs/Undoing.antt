-- Edits are taken back, the last first.
use Rattle.std.proofs.Common.{rules, ◌≡◌, ℕ, ◌+◌, ◌-◌, ◌≤◌, List, [], ◌∷◌, ◌++◌, length, take, drop, refl, sym, ◌∙◌, ap, subst, arith, append_assoc, length-append}
use Rattle.std.proofs.lemmas.Grind.{common_steps}
use Rattle.std.specs.Prelude.{slice_range}
use Rattle.std.proofs.lemmas.List.{take_at, drop_at, take-append-drop, length-take-le}
use Rattle.std.proofs.Math.Seq.{drop-drop}
use Rattle.org_splice.specs.Ranges.{AreChanged}
use Rattle.org_splice.specs.Edits.{edited}
use Rattle.org_splice.specs.Texts.{EditedText}
use Rattle.org_splice.specs.declared.Span.{Span}
use Rattle.org_splice.specs.declared.undo.Undo.{Undo}
use Rattle.org_splice.specs.Versions.{AreUndos, IsUndo, text_of_parts, undone, undone_all}

-- one more edit is taken back first
pub undone_all-push : (undos : List Undo) (undo : Undo) (text : EditedText) → undone_all (undos ++ undo ∷ []) text ≡ undone_all undos (undone undo text)
undone_all-push [] undo text = refl
undone_all-push (one ∷ undos) undo text = ap (undone one) (undone_all-push undos undo text)

pub AreUndos-push : (room : ℕ) (undos : List Undo) (undo : Undo) (text : EditedText) → IsUndo room undo text → AreUndos room undos (undone undo text) → AreUndos room (undos ++ undo ∷ []) text
AreUndos-push room [] undo text is are = (tt, is)
AreUndos-push room (one ∷ undos) undo text is are = grind (arith, common_steps, undone_all-push, AreUndos-push room undos undo text is are.0)

pub AreUndos-last : (room : ℕ) (undos : List Undo) (undo : Undo) (text : EditedText) → AreUndos room (undos ++ undo ∷ []) text → IsUndo room undo text × AreUndos room undos (undone undo text)
AreUndos-last room [] undo text are = (are.1, tt)
AreUndos-last room (one ∷ undos) undo text are = grind (arith, common_steps, undone_all-push, AreUndos-last room undos undo text are.0)

-- the same as the code says it: `undo` was taken off the list `items`
pub AreUndos-popped : (room : ℕ) (items undos : List Undo) (undo : Undo) (text : EditedText) → items ≡ undos ++ undo ∷ [] → AreUndos room items text → IsUndo room undo text × AreUndos room undos (undone undo text)
AreUndos-popped room items undos undo text is are = AreUndos-last room undos undo text (subst (λ (l : List Undo). AreUndos room l text) is are)

pub AreUndos-wider : (room wider : ℕ) (undos : List Undo) (text : EditedText) → room ≤ wider → AreUndos room undos text → AreUndos wider undos text
AreUndos-wider room wider [] text more are = tt
AreUndos-wider room wider (one ∷ undos) text more are = grind (arith, common_steps, AreUndos-wider room wider undos text more are.0)

-- what stood in a text where bytes came in the place of others
back : (at removed : ℕ) (added text : List ℕ) → at + removed ≤ length text
    → take at (take at text ++ added ++ drop (at + removed) text) ++ slice_range text at (at + removed) ++ drop (at + length added) (take at text ++ added ++ drop (at + removed) text) ≡ text
back at removed added text within =
    let size : length (take at text) ≡ at = length-take-le at text (omega (arith, within)) in
    let both : length (take at text ++ added) ≡ at + length added = omega (arith, length-append (take at text) added, size) in
    let front : take at (take at text ++ added ++ drop (at + removed) text) ≡ take at text =
    ap (take at) (append_assoc (take at text) added (drop (at + removed) text)) ∙ take_at (take at text) (added ++ drop (at + removed) text) at size in
    let behind : drop (at + length added) (take at text ++ added ++ drop (at + removed) text) ≡ drop (at + removed) text = drop_at (take at text ++ added) (drop (at + removed) text) (at + length added) both in
    let middle : slice_range text at (at + removed) ++ drop (at + removed) text ≡ drop at text =
    let long : at + removed - at ≡ removed = omega arith in
    ap (λ (n : ℕ). take n (drop at text) ++ drop (at + removed) text) long
    ∙ ap (λ (l : List ℕ). take removed (drop at text) ++ l) (sym (drop-drop removed at text))
    ∙ take-append-drop removed (drop at text) in
    rw (front, behind) (append_assoc (take at text) (slice_range text at (at + removed)) (drop (at + removed) text) ∙ ap (λ (l : List ℕ). take at text ++ l) middle ∙ take-append-drop at text)

-- What takes a splice back, and what is left of a text by it.
pub record IsBack (undo : Undo) (at removed : ℕ) (added : List ℕ) (text : EditedText) : Type 0 where
  pub at_is : undo.at ≡ at
  pub added_is : undo.added ≡ length added
  pub removed_is : undo.removed ≡ slice_range text.bytes at (at + removed)
  pub changed_is : undo.changed.items ≡ text.changed

-- taking back what was put in makes what was
pub undone-put : (undo : Undo) (at removed : ℕ) (added : List ℕ) (new : List Span) (text : EditedText) → at + removed ≤ length text.bytes
    → IsBack undo at removed added text → undone undo (text_of_parts (edited at removed added text.bytes) new) ≡ text
undone-put undo at removed added new text within is = grind (arith, common_steps, back)

-- it can be taken back, where there is room for the text that was
pub IsUndo-put : (room : ℕ) (undo : Undo) (at removed : ℕ) (added : List ℕ) (new : List Span) (text : EditedText) → at + removed ≤ length text.bytes → length text.bytes ≤ room
    → AreChanged (length text.bytes) text.changed → IsBack undo at removed added text → IsUndo room undo (text_of_parts (edited at removed added text.bytes) new)
IsUndo-put room undo at removed added new text within fits are is = grind (arith, common_steps)

-- one more, with what takes it back
pub AreUndos-put : (room wider : ℕ) (undos : List Undo) (undo : Undo) (at removed : ℕ) (added : List ℕ) (new : List Span) (text : EditedText) → at + removed ≤ length text.bytes → length text.bytes ≤ wider → room ≤ wider
    → AreChanged (length text.bytes) text.changed → IsBack undo at removed added text → AreUndos room undos text
    → AreUndos wider (undos ++ undo ∷ []) (text_of_parts (edited at removed added text.bytes) new) × (undone_all (undos ++ undo ∷ []) (text_of_parts (edited at removed added text.bytes) new) ≡ undone_all undos text)
AreUndos-put room wider undos undo at removed added new text within fits more changed is are = search (rules, arith, undone-put, AreUndos-push, IsUndo-put, AreUndos-wider, undone_all-push)
