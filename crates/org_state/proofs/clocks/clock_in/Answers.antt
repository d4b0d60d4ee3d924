use Rattle.std.proofs.Common.{[], ◌∷◌}
use Rattle.std.proofs.lemmas.Result.{IfOk-weaker}
use Rattle.org_outline.specs.Tree.{print, tree}
use Rattle.org_splice.specs.declared.edit.Edit.{Edit}
use Rattle.org_splice.specs.Edits.{AreEdits}
use Rattle.org_state.specs.Clock.{opened_section, with_opened}
use Rattle.org_state.specs.Edits.{EditsSection}
use Rattle.org_state.proofs.Switching.{section_made}
use Rattle.org_state.proofs.clocks.clock_in.Goals as goal

pub returns : goal.returns
returns c =
    let a = c.args in
    let t = a.outline.now.text in
    let section = opened_section a.now (tree t) a.node in
    IfOk-weaker c.opening.result (λ (edit : Edit). EditsSection edit (tree t) a.node section) (λ (edit : Edit). AreEdits (edit ∷ []) t (print (with_opened a.now a.node (tree t))))
    (λ edit edits. section_made t a.node edit section c.opening.ensures.terminated c.requires edits) c.opening.ensures.edits
