use Rattle.std.proofs.Common.{ap, ◌∙◌}
use Rattle.org_splice.specs.declared.edit.Edit.{Edit}
use Rattle.org_move.proofs.Made.{printed, shifted_is}
use Rattle.org_move.proofs.refile.with_subtree.Goals as goal

pub shift-requires-clause-node : goal.shift-requires-clause-node
shift-requires-clause-node c =
    printed c.args.source.now.text c.text.result.now c.args.node _ _ c.text.ensures.value c.requires.node c.subtree-span.ensures.bytes

pub returns-clause-value : goal.returns-clause-value
returns-clause-value c =
    let bytes = shifted_is c.args.source.now.text c.text.result.now c.in_ok-bytes.bytes.items c.args.node c.args.level _ _ c.text.ensures.value c.requires.node c.subtree-span.ensures.bytes c.in_ok-bytes.ensures in
    ap (λ bytes. let edit : Edit = record { at = c.args.at; removed = 0; bytes = bytes } in edit) (c.new.ensures ∙ bytes)
