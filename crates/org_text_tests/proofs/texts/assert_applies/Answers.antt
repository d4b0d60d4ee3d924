use Rattle.std.proofs.Common.{◌≡◌, ◌∙◌, ◌+◌, ◌++◌, ◌∷◌, [], List, take, sym, ap, subst}
use Rattle.std.proofs.lemmas.List.{take_more, take_all}
use Rattle.org_splice.specs.declared.edit.Edit.{Edit}
use Rattle.org_splice.specs.Edits.{AreEdits}
use Rattle.org_splice.proofs.Places.{AreEdits-join}
use Rattle.org_texts.proofs.Standing.{lie_in}
use Rattle.org_text_tests.proofs.texts.assert_applies.Goals as goal

pub loop-edit-preserved : goal.loop-edit-preserved
loop-edit-preserved g c =
    let edits = c.args.edits.now in
    let i = c.loop-edit.edit-index in
    let one : Edit = c.edit-item.result in
    let now = c.loop-edit.now.text.bytes in
    let new = c.make.new.now.text.bytes in
    let more : take (i + 1) edits ≡ take i edits ++ one ∷ [] = take_more edits i one c.loop-edit-test.true ∙ ap (λ (e : Edit). take i edits ++ e ∷ []) (sym c.edit-item.is) in
    subst (λ (l : List Edit). AreEdits l c.args.text.now new) (sym more) (AreEdits-join (take i edits) (one ∷ []) c.args.text.now now new c.loop-edit.invariant c.make.ensures)

pub returns : goal.returns
returns g c =
    let edits = c.args.edits.now in
    let now = c.loop-edit.now.text.bytes in
    lie_in edits c.args.text.now now (subst (λ (l : List Edit). AreEdits l c.args.text.now now) (take_all c.loop-edit.edit-index edits c.loop-edit-test.false) c.loop-edit.invariant)
