use Rattle.std.proofs.Common.{◌≡◌, ◌∙◌, ◌+◌, ◌-◌, List, length, sym, ap, subst, arith}
use Rattle.std.proofs.lemmas.Grind.{common_steps}
use Rattle.org_splice.specs.declared.Span.{Span}
use Rattle.org_splice.specs.Edits.{edited}
use Rattle.org_splice.specs.Ranges.{changed_by}
use Rattle.org_splice.specs.Texts.{EditedText, IsEditOf, spliced}
use Rattle.org_splice.specs.Versions.{text_of_parts}
use Rattle.org_splice.proofs.Edited.{IsEditOf-spliced}
use Rattle.org_splice.proofs.Failing.{either_way}
use Rattle.org_splice.proofs.Windows.{AreChanged-made, AreChanged-wider, changed_are}
use Rattle.org_splice.proofs.editing.splice.Goals as goal

pub changed_by-requires-clause-changed : goal.changed_by-requires-clause-changed
changed_by-requires-clause-changed c = grind (arith, common_steps, AreChanged-wider)

pub put-requires-clause-new : goal.put-requires-clause-new
put-requires-clause-new c =
    let with : c.in_ok-new_changed.new_changed.items ≡ changed_by c.args.at c.args.removed (length c.args.bytes.now) (length c.args.text.now.items - c.args.removed + length c.args.bytes.now) c.args.changed.now.items =
    changed_are c.args.at c.args.removed (length c.args.bytes.now) _ c.args.text.now.items c.args.changed.now.items c.deref.result.now c.in_ok-new_changed.new_changed.items c.deref.ensures.value
    (omega (arith, c.args.text.now.ok.0, c.len.ensures)) c.in_ok-new_changed.ensures in
    AreChanged-made c.args.at c.args.removed (length c.args.bytes.now) c.args.text.now.items c.args.changed.now.items c.in_ok-new_changed.new_changed.items c.requires.within c.requires.changed with

pub returns-clause-edit : goal.returns-clause-edit
returns-clause-edit c = λ old edit.
    let before : EditedText = text_of_parts c.args.text.now.items c.args.changed.now.items in
    let after : EditedText = text_of_parts c.put.new.text.items c.put.new.changed.items in
    let at = c.args.at in
    let removed = c.args.removed in
    let bytes = c.args.bytes.now in
    let put : EditedText = text_of_parts (edited at removed bytes c.args.text.now.items) c.in_ok-new_changed.new_changed.items in
    let with : c.in_ok-new_changed.new_changed.items ≡ changed_by c.args.at c.args.removed (length c.args.bytes.now) (length c.args.text.now.items - c.args.removed + length c.args.bytes.now) c.args.changed.now.items =
    changed_are c.args.at c.args.removed (length c.args.bytes.now) _ c.args.text.now.items c.args.changed.now.items c.deref.result.now c.in_ok-new_changed.new_changed.items c.deref.ensures.value
    (omega (arith, c.args.text.now.ok.0, c.len.ensures)) c.in_ok-new_changed.ensures in
    let made : put ≡ spliced at removed bytes before = ap (λ (r : List Span). text_of_parts (edited at removed bytes c.args.text.now.items) r) with in
    let is = IsEditOf-spliced old at removed bytes before c.requires.within c.requires.changed edit in
    either_way c.put.result (after ≡ put) (after ≡ before) (IsEditOf old after)
    c.put.ensures.ok c.put.ensures.err
    (λ same. subst (IsEditOf old) (sym (same ∙ made)) is) (λ same. subst (IsEditOf old) (sym same) edit)
