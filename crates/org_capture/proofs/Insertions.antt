-- Nodes put into a text, as edits.
use Rattle.std.proofs.Common.{◌≡◌, ℕ, ◌+◌, ◌≤◌, List, [], ◌∷◌, ◌++◌, ◌<◌, length, length-append, refl, sym, ◌∙◌, ap, subst, append_assoc, arith, true, Option, None, Result, Ok}
use Rattle.std.proofs.lemmas.Grind.{common_steps}
use Rattle.std.proofs.lemmas.List.{length-replicate}
use Rattle.org_splice.specs.Lines.{terminated}
use Rattle.org_splice.specs.Edits.{edited, applied, AreEdits}
use Rattle.org_splice.specs.declared.edit.Edit.{Edit}
use Rattle.org_outline.specs.declared.moves.Place.{Place}
use Rattle.org_outline.specs.States.{Keywords}
use Rattle.org_outline.specs.declared.paths.PathFault.{PathFault}
use Rattle.org_outline.specs.Tree.{Node, Document, tree, print, print_node, node_at, node_count, lines}
use Rattle.org_outline.specs.Moves.{Inserts, shift_node}
use Rattle.org_outline.specs.Numbers.{heading_over}
use Rattle.org_outline.proofs.Trees.{tree-is}
use Rattle.org_outline.proofs.Changes.{take_local}
use Rattle.org_outline.proofs.AsEdits.{inserts_edit}
use Rattle.org_outline.proofs.TwoEdits.{one_edit}
use Rattle.org_outline.proofs.Making.{made_end, made_print}
use Rattle.org_capture.specs.Answers.{Makes}
use Rattle.org_capture.specs.Capture.{below_made, below_head, can_be_title, rest_of}
use Rattle.org_headings.specs.Text.{heading_line}

-- bytes put in where an insertion puts them
pub makes : (text : List ℕ) (new : Document) (e : Edit) (added : List ℕ) → terminated text ≡ text → e.removed ≡ 0 → e.bytes ≡ added → Inserts text (print new) e.at added → Makes e text new
makes text new e added stays_terminated none is puts =
    let prints : print (tree text) ≡ text = (tree-is text).prints ∙ stays_terminated in
    let edit = inserts_edit text (print new) e.at added puts in
    let same : print new ≡ applied e text = edit.1 ∙ ap (λ b. edited e.at 0 b text) (sym is) ∙ ap (λ n. edited e.at n e.bytes text) (sym none) in
    let P : List ℕ → Type 0 = λ t. AreEdits (e ∷ []) t (print new) in
    let fits : e.at + e.removed ≤ length (print (tree text)) = omega (arith, edit.0, none, ap length prints) in
    record {
      removes_nothing = none;
      edits = subst P prints (one_edit e (tree text) new fits (same ∙ ap (applied e) (sym prints)));
    }

-- the heading with the title is made
pub head_made : (states : Keywords) (title : List ℕ) (place : Place) (node : Node) (d : Document) (r : Result (Option ℕ) PathFault) → r ≡ Ok None → can_be_title states title ≡ true
    → below_head states title place node d r ≡ Ok (below_made place node title d)
head_made states title place node d r none can = rw (none, can) refl

-- bytes put after a text
pub at_the_end : (text new added : List ℕ) → new ≡ text ++ added → Inserts text new (length text) added
at_the_end text new added is = grind (arith, common_steps)

-- the heading that is made at the end, with the entry below it
pub makes_head : (text title : List ℕ) (place : Place) (node : Node) (e : Edit) → terminated text ≡ text → e.at ≡ length text → e.removed ≡ 0
    → e.bytes ≡ (heading_line 1 (rest_of title) ++ 10 ∷ []) ++ print_node (shift_node 2 node) → Makes e text (below_made place node title (tree text))
makes_head text title place node e stays_terminated at none is =
    let prints : print (tree text) ≡ text = (tree-is text).prints ∙ stays_terminated in
    let line = heading_line 1 (rest_of title) in
    let over = print_node (heading_over 1 (rest_of title) (shift_node 2 node)) in
    let bytes : e.bytes ≡ over = is ∙ append_assoc line (10 ∷ []) (print_node (shift_node 2 node)) ∙ sym (made_print 1 (rest_of title) (shift_node 2 node)) in
    let new = below_made place node title (tree text) in
    let put : print new ≡ text ++ over = made_end place 1 (rest_of title) node (tree text) ∙ ap (λ t. t ++ over) prints in
    let P : ℕ → Type 0 = λ k. Inserts text (print new) k over in
    makes text new e over stays_terminated none bytes (subst P (sym at) (at_the_end text (print new) over put))

-- a heading's line is longer than its level
pub level_room : (text : List ℕ) (i : ℕ) → terminated text ≡ text → i < node_count (tree text) → (node_at (tree text) i).node.level < length text
level_room text i stays_terminated lt = grind (arith, common_steps, take_local, tree-is, heading_line, lines, length-append, length-replicate)
