use Rattle.std.proofs.Common.{◌≡◌, ◌∙◌, ◌+◌, ◌≤◌, ◌++◌, ℕ, List, [], ◌∷◌, length, vec_capacity, refl, sym, ap, subst, arith}
use Rattle.std.proofs.lemmas.Grind.{common_steps}
use Rattle.std.specs.Prelude.{slice_range}
use Rattle.org_splice.specs.Edits.{edited}
use Rattle.org_splice.specs.declared.Span.{Span}
use Rattle.org_splice.specs.declared.undo.Undo.{Undo}
use Rattle.org_splice.specs.Ranges.{AreChanged}
use Rattle.org_splice.specs.Texts.{EditedText}
use Rattle.org_splice.specs.Versions.{AreUndos, text_of_parts, undone_all}
use Rattle.org_splice.proofs.Edited.{length-spliced}
use Rattle.org_splice.proofs.Splicing.{where_true}
use Rattle.org_splice.proofs.Undoing.{AreUndos-put, AreUndos-wider, IsBack}
use Rattle.org_splice.proofs.editing.put.Goals as goal

-- what stands after a replacement that failed
same_text : (bytes were : List ℕ) (ranges : List Span) → bytes ≡ were → text_of_parts bytes ranges ≡ text_of_parts were ranges
same_text bytes were ranges e = ap (λ (b : List ℕ). text_of_parts b ranges) e

pub returns-in_err-replace-clause-back : goal.returns-in_err-replace-clause-back
returns-in_err-replace-clause-back c = grind (arith, common_steps, same_text, AreUndos-wider)

-- the text and its changed ranges after it
put_in : (c : goal.Else-is_err) → text_of_parts c.replace.new.text.items c.replace-old_changed.new.dest.items ≡ text_of_parts (edited c.args.at c.args.removed c.args.bytes.now c.args.text.now.items) c.args.new_changed.items
put_in c =
    ap (λ (b : List ℕ). text_of_parts b c.replace-old_changed.new.dest.items) c.in_ok-replace.ensures.ok
    ∙ ap (λ v. text_of_parts (edited c.args.at c.args.removed c.args.bytes.now c.args.text.now.items) v.items) c.replace-old_changed.ensures.after

takes_back : (c : goal.Else-is_err) → IsBack (record { at = c.args.at; added = length c.args.bytes.now; removed = c.new.result; changed = c.replace-old_changed.result }) c.args.at c.args.removed c.args.bytes.now (text_of_parts c.args.text.now.items c.args.changed.now.items)
takes_back c =
    let removed : c.new.result ≡ slice_range c.args.text.now.items c.args.at (c.args.at + c.args.removed) = c.new.ensures ∙ c.in_ok-old_bytes.ensures.bytes ∙ ap (λ (t : List ℕ). slice_range t c.args.at (c.args.at + c.args.removed)) c.deref.ensures.value in
    let changed : c.replace-old_changed.result.items ≡ c.args.changed.now.items = ap (λ v. v.items) c.replace-old_changed.ensures.value in
    record { at_is = refl; added_is = refl; removed_is = removed; changed_is = changed }

is_pushed : (c : goal.Else-is_err) → c.push.new.self.items ≡ c.args.undos.now.items ++ (record { at = c.args.at; added = length c.args.bytes.now; removed = c.new.result; changed = c.replace-old_changed.result }) ∷ []
is_pushed c = grind (arith, common_steps, where_true)

-- all edits can still be taken back, to the same text
can_undo : (c : goal.Else-is_err) → AreUndos (vec_capacity c.replace.new.text) c.push.new.self.items (text_of_parts c.replace.new.text.items c.replace-old_changed.new.dest.items)
    × (undone_all c.push.new.self.items (text_of_parts c.replace.new.text.items c.replace-old_changed.new.dest.items) ≡ undone_all c.args.undos.now.items (text_of_parts c.args.text.now.items c.args.changed.now.items))
can_undo c =
    let before : EditedText = text_of_parts c.args.text.now.items c.args.changed.now.items in
    let undo : Undo = record { at = c.args.at; added = length c.args.bytes.now; removed = c.new.result; changed = c.replace-old_changed.result } in
    let same = put_in c in
    let pushed = is_pushed c in
    let room : length c.args.text.now.items ≤ vec_capacity c.replace.new.text = omega (arith, c.args.text.now.ok.0, c.args.text.now.ok.1, c.replace.ensures.capacity) in
    rw (same, pushed) (AreUndos-put (vec_capacity c.args.text.now) (vec_capacity c.replace.new.text) c.args.undos.now.items undo c.args.at c.args.removed c.args.bytes.now c.args.new_changed.items before c.requires.within room c.replace.ensures.capacity c.requires.changed (takes_back c) c.requires.can)

pub returns-clause-back : goal.returns-clause-back
returns-clause-back c =
    let long = length-spliced c.args.at c.args.removed c.args.bytes.now c.args.text.now.items c.requires.within in
    let undo = can_undo c in
    record {
      before = undo.1;
      changed = subst (λ (t : EditedText). AreChanged (length t.bytes) t.changed) (sym (put_in c)) (rw long c.requires.new);
      can = undo.0;
    }
