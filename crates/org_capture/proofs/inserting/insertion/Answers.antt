use Rattle.std.proofs.Common.{◌≡◌, ◌∙◌, ℕ, List, length, refl, sym, ap, arith}
use Rattle.org_splice.specs.declared.edit.Edit.{Edit}
use Rattle.org_outline.specs.Tree.{Node, Document, tree, node_at, print, print_node}
use Rattle.org_outline.specs.Moves.{insert, level_below, shift_node}
use Rattle.org_outline.proofs.AsEdits.{inserts_edit}
use Rattle.org_capture.proofs.OneHeading.{entry_printed, entry_node}
use Rattle.org_capture.proofs.Insertions.{makes}
use Rattle.org_capture.proofs.inserting.insertion.Goals as goal

pub shifted-requires-clause-node : goal.shifted-requires-clause-node
shifted-requires-clause-node c = entry_printed c.args.entry.items c.requires.entry.0 c.requires.entry.1

pub returns : goal.returns
returns c = λ node entry.
    let text : List ℕ = c.args.outline.now.text in
    let d : Document = tree text in
    let first : Node = (node_at (tree c.args.entry.items) 0).node in
    let level : ℕ = level_below c.args.parent d in
    let bytes : c.new-bytes.result ≡ print_node (shift_node level node) = c.new-bytes.ensures ∙ c.in_ok-shifted.ensures
    ∙ ap (λ l. print_node (shift_node l first)) c.level_below-level.ensures.value ∙ ap (λ n. print_node (shift_node level n)) (sym (entry_node c.args.entry.items node entry)) in
    let edit : Edit = record { at = c.place-at.result; removed = 0; bytes = c.new-bytes.result } in
    let new : Document = insert c.args.parent c.args.place node d in
    (new, refl, makes text new edit (print_node (shift_node level node)) c.text.ensures.terminated refl bytes (c.place-at.ensures node))

pub prove-unreachable-requires : goal.prove-unreachable-requires
prove-unreachable-requires c =
    let text : List ℕ = c.args.outline.now.text in
    let node : Node = c.requires.entry.0 in
    let new : Document = insert c.args.parent c.args.place node (tree text) in
    let within = (inserts_edit text (print new) c.place-at.result (print_node (shift_node (level_below c.args.parent (tree text)) node)) (c.place-at.ensures node)).0 in
    omega (arith, within, ap length c.text.ensures.value)
