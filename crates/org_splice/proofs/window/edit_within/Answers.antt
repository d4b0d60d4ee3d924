use Rattle.std.proofs.Common.{◌≡◌, ◌∙◌, ◌+◌, ◌-◌, ◌≤◌, ◌^◌, ℕ, List, length, refl, sym, ap, subst, arith}
use Rattle.std.proofs.lemmas.Grind.{common_steps}
use Rattle.org_splice.specs.Edits.{edited}
use Rattle.org_splice.specs.Ranges.{AreChanged, changed_by}
use Rattle.org_splice.proofs.Edited.{length-spliced}
use Rattle.org_splice.proofs.Windows.{AreChanged-wider, changed_with, same_splice, stay_changed}
use Rattle.org_splice.proofs.window.edit_within.Goals as goal

pub changed_by-requires-clause-changed : goal.changed_by-requires-clause-changed
changed_by-requires-clause-changed c =
    let start = c.args.part.start in
    let removed : ℕ = c.args.part.end - start in
    let part_in : start + removed ≤ length c.args.text.now = omega (arith, c.requires.ordered, c.requires.within) in
    let whole : List ℕ = edited start removed c.args.window.now.items c.args.text.now in
    let long : length whole ≡ length c.args.text.now - removed + length c.args.window.now.items = length-spliced start removed c.args.window.now.items c.args.text.now part_in in
    let small : length whole ≤ 2 ^ 64 - 1 = omega (arith, long, c.args.window.now.ok.0, c.args.window.now.ok.1, c.args.window.now.small) in
    subst (AreChanged (2 ^ 64 - 1)) (sym c.deref.ensures.value) (AreChanged-wider (length whole) (2 ^ 64 - 1) c.args.changed.now.items small c.requires.changed)

part_in : (c : goal.After-drop-room) → c.args.part.start + (c.args.part.end - c.args.part.start) ≤ length c.args.text.now
part_in c = omega (arith, c.requires.ordered, c.requires.within)

within : (c : goal.After-drop-room) → c.args.edit.now.at - c.args.part.start + c.args.edit.now.removed ≤ length c.args.window.now.items
within c = omega (arith, c.if-edit-len.false, c.if-start-len.false, c.len.ensures, c.len-else-start-len.ensures, c.args.window.now.ok.0)

made : (c : goal.After-drop-room) → c.replace.new.text.items ≡ edited (c.args.edit.now.at - c.args.part.start) c.args.edit.now.removed c.args.edit.now.bytes c.args.window.now.items
made c = c.in_ok-replace.ensures.ok ∙ ap (λ (b : List ℕ). edited (c.args.edit.now.at - c.args.part.start) c.args.edit.now.removed b c.args.window.now.items) c.as_slice.ensures

size_of : (c : goal.After-drop-room) → ℕ
size_of c = length c.args.text.now - (c.args.part.end - c.args.part.start) + length c.replace.new.text.items

ranges_are : (c : goal.After-drop-room) → c.replace-2.new.dest.items ≡ changed_by c.args.edit.now.at c.args.edit.now.removed (length c.args.edit.now.bytes) (size_of c) c.args.changed.now.items
unfolding size_of
ranges_are c = grind (arith, common_steps, changed_by, changed_with)

pub returns-clause-made : goal.returns-clause-made
unfolding size_of
returns-clause-made c = λ done.
    same_splice c.args.text.now c.args.window.now.items c.args.edit.now.bytes c.replace.new.text.items c.args.part.start (c.args.part.end - c.args.part.start) c.args.edit.now.at c.args.edit.now.removed
    (part_in c) c.if-edit-part.false (within c) (made c) (size_of c) c.args.changed.now.items c.replace-2.new.dest.items refl (ranges_are c)

pub returns-clause-changed : goal.returns-clause-changed
unfolding size_of
returns-clause-changed c = λ done.
    stay_changed c.args.text.now c.args.window.now.items c.args.edit.now.bytes c.replace.new.text.items c.args.part.start (c.args.part.end - c.args.part.start) c.args.edit.now.at c.args.edit.now.removed
    (part_in c) c.if-edit-part.false (within c) (made c) (size_of c) c.args.changed.now.items c.replace-2.new.dest.items refl (ranges_are c) c.requires.changed
