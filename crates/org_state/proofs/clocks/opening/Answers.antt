use Rattle.org_outline.specs.Tree.{tree}
use Rattle.org_state.proofs.Switching.{opening_edits}
use Rattle.org_state.proofs.clocks.opening.Goals as goal

pub returns-clause-edits : goal.returns-clause-edits
returns-clause-edits c =
    opening_edits (tree c.args.own.now.outline.now.text) c.args.own.now.node c.args.now c.section.result.bytes.now c.in_ok-edit.edit _ c.section.ensures.bytes c.section.ensures.lines c.in_ok-edit.ensures c.in_section.ensures
