use Rattle.std.proofs.Common.{rules, ◌≡◌, ◌∙◌, ◌+◌, ◌-◌, ◌++◌, List, ℕ, [], ◌∷◌, length, take, drop, vec_capacity, sym, ap, subst, arith}
use Rattle.org_splice.specs.Ranges.{AreChanged}
use Rattle.org_splice.specs.Texts.{EditedText}
use Rattle.org_splice.specs.declared.undo.Undo.{Undo}
use Rattle.org_splice.specs.Versions.{AreUndos, undone, undone_all}
use Rattle.org_splice.proofs.Edited.{length-spliced}
use Rattle.org_splice.proofs.Undoing.{AreUndos-popped, AreUndos-wider, undone_all-push}
use Rattle.org_splice.proofs.undo.undo_all.Goals as goal

pub replace-requires : goal.replace-requires
replace-requires c =
    let is = (AreUndos-popped _ _ _ _ _ c.in-Some.ensures.items c.loop-undo.invariant.can).0 in
    omega (arith, is.within, c.loop-undo.bytes.ok.0)

pub unreachable-requires : goal.unreachable-requires
unreachable-requires c =
    let is = (AreUndos-popped _ _ _ _ _ c.in-Some.ensures.items c.loop-undo.invariant.can).0 in
    let made = c.replace.ensures.room (omega (arith, is.fits, c.loop-undo.bytes.ok.0, ap length c.as_slice.ensures)) in
    search (rules, made)

pub loop-undo-preserved : goal.loop-undo-preserved
loop-undo-preserved c =
    let undo = c.in-Some.undo in
    let rest = c.pop.new.self.items in
    let text : EditedText = record { bytes = c.loop-undo.bytes.items; changed = c.loop-undo.changed.items } in
    let last : c.loop-undo.undos.items ≡ rest ++ undo ∷ [] = c.in-Some.ensures.items in
    let both = AreUndos-popped _ _ rest undo text last c.loop-undo.invariant.can in
    let put : c.replace.new.text.items ≡ take undo.at text.bytes ++ c.as_slice.result.now ++ drop (undo.at + undo.added) text.bytes = search rules in
    let back : c.replace.new.text.items ≡ (undone undo text).bytes = put ∙ ap (λ (b : List ℕ). take undo.at text.bytes ++ b ++ drop (undo.at + undo.added) text.bytes) c.as_slice.ensures in
    let made_text : EditedText = record { bytes = c.replace.new.text.items; changed = undo.changed.items } in
    let with_bytes : List ℕ → EditedText = λ b. record { bytes = b; changed = undo.changed.items } in
    let made : made_text ≡ undone undo text = ap with_bytes back in
    let size : length c.replace.new.text.items ≡ length text.bytes - undo.added + length undo.removed = ap length back ∙ length-spliced undo.at undo.added undo.removed text.bytes both.0.within in
    record {
      same = ap (undone_all rest) made ∙ sym (undone_all-push rest undo text) ∙ ap (λ (l : List Undo). undone_all l text) (sym last) ∙ c.loop-undo.invariant.same;
      can = AreUndos-wider (vec_capacity c.loop-undo.bytes) (vec_capacity c.replace.new.text) rest _ c.replace.ensures.capacity (subst (AreUndos (vec_capacity c.loop-undo.bytes) rest) (sym made) both.1);
      changed = subst (λ (n : ℕ). AreChanged n undo.changed.items) (sym size) both.0.changed;
    }
