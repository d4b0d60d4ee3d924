-- The two edits of a subtree that moves.
use Rattle.std.specs.Prelude.{ℕ, [], length}
use Rattle.org_splice.specs.declared.edit.Edit.{Edit}
use Rattle.org_outline.specs.Tree.{Document, Node, node_at, print_node}

-- the print of a document loses the subtree of node i
abbrev pub removal : ℕ → Document → Edit
removal i d =
    record { at = (node_at d i).at; removed = length (print_node (node_at d i).node); bytes = [] }

-- a text gains the print of a node at a byte
abbrev pub insertion : ℕ → Node → Edit
insertion at node = record { at = at; removed = 0; bytes = print_node node }
