-- The section of a node in the text.
use Rattle.std.proofs.Common.{◌≡◌, ℕ, suc, ◌+◌, ◌-◌, ◌<◌, ◌≤◌, List, [], ◌∷◌, ◌++◌, length, drop, take, get_or, refl, sym, ap, subst, ◌∙◌, append_assoc, arith, add-one}
use Rattle.std.specs.List.{AllByRecursion}
use Rattle.std.proofs.lemmas.List.{length-append, length-drop, take-append-drop, take_at, drop_at, drop-drop}
use Rattle.org_splice.proofs.Lines.{lines_of-lines, size, size-cons, print_lines-append}
use Rattle.org_headings.specs.declared.heads.Heading.{Heading}
use Rattle.org_splice.specs.Lines.{terminated, print_lines, IsLine, lines_of}
use Rattle.org_headings.specs.Text.{heading_line}
use Rattle.org_outline.specs.Tree.{Forest, Empty, Tree, Document, Placed, lines, own_lines, print_node, IsForest, IsValid, tree, nodes, nodes_from, node_at, node_count, no_node}
use Rattle.org_outline.specs.Outline.{heading_of, IsSection, node_headings}
use Rattle.org_headings.specs.Headings.{next_at, start_or}
use Rattle.org_outline.specs.Moves.{IsNode}
use Rattle.org_splice.proofs.AllLines.{AllByRecursion-append}
use Rattle.org_outline.proofs.Trees.{valid-tree_of_lines, IsLine-heading}
use Rattle.org_outline.proofs.Nodes.{node_of, own_end, subtree_is, heading_at}
use Rattle.org_splice.proofs.AllLines.{AllByRecursion-at}

-- each node of a valid forest is a valid tree
pub nodes-valid : (at : ℕ) (f : Forest) → IsForest f → AllByRecursion (λ (p : Placed). IsNode p.node) (nodes_from at f)
nodes-valid at Empty v = tt
nodes-valid at (Tree n r s kids later) v =
    let node = node_of n r s kids in (
      record { heading = v.0; deep = v.1; children = v.2 },
      AllByRecursion-append (λ (p : Placed). IsNode p.node) (nodes_from (at + size (own_lines node)) kids) (nodes_from (at + length (print_node node)) later)
          (nodes-valid (at + size (own_lines node)) kids v.2) (nodes-valid (at + length (print_node node)) later v.4),
    )

-- so is each of a valid document, and of a text
pub valid_node : (d : Document) (i : ℕ) → IsValid d → i < node_count d → IsNode (node_at d i).node
valid_node d i valid lt = AllByRecursion-at (λ (p : Placed). IsNode p.node) (nodes d) i no_node (nodes-valid (size d.preamble) d.forest valid.forest) lt

pub node-valid : (t : List ℕ) (i : ℕ) → i < node_count (tree t) → IsNode (node_at (tree t) i).node
node-valid t i lt = valid_node (tree t) i (valid-tree_of_lines (lines_of t) (lines_of-lines t)) lt

-- the text from a node on
pub from_node : (t : List ℕ) (i : ℕ) (h : Heading) → terminated t ≡ t → i < node_count (tree t) → h ≡ get_or (node_headings t) i h → (more : List ℕ) × (drop h.start t ≡ print_node (node_at (tree t) i).node ++ more)
from_node t i h c lt e =
    let s = subtree_is t i h c lt e in
    let k = next_at h.level (drop (suc i) (node_headings t)) (length t) - h.start in
    (drop k (drop h.start t), sym (take-append-drop k (drop h.start t)) ∙ ap (λ x. x ++ drop k (drop h.start t)) s.bytes)

-- what the code answers
pub section_is : (t : List ℕ) (i : ℕ) (h : Heading) (from : ℕ) → terminated t ≡ t → i < node_count (tree t) → h ≡ get_or (node_headings t) i h
    → ((l more : List ℕ) → IsLine l → drop h.start t ≡ l ++ 10 ∷ more → from ≡ h.start + length l + 1)
    → IsSection t (node_at (tree t) i) (record { start = from; end = start_or (drop (suc i) (node_headings t)) (length t) })
section_is t i h from c lt e found =
    let p = node_at (tree t) i in
    let n = p.node in
    let v = (node-valid t i lt).heading in
    let l = heading_line n.level n.rest in
    let s = subtree_is t i h c lt e in
    let m = from_node t i h c lt e in
    let below = print_lines (n.section ++ lines n.children) in
    let after = below ++ m.0 in
    let split : drop h.start t ≡ l ++ 10 ∷ after = m.1 ∙ append_assoc l (10 ∷ below) m.0 in
    let line : from ≡ h.start + length l + 1 = found l after (IsLine-heading n.level n.rest v.rest) split in
    let own : size (own_lines n) ≡ length l + 1 + size n.section = size-cons l n.section in
    let start : h.start ≡ p.at = s.start in
    let end : start_or (drop (suc i) (node_headings t)) (length t) ≡ p.at + size (own_lines n) = own_end t i c lt in
    let long : start_or (drop (suc i) (node_headings t)) (length t) - from ≡ size n.section = omega (arith, own, start, end, line) in
    let there : from ≡ h.start + suc (length l) = omega (arith, line) in
    let rest : drop from t ≡ print_lines n.section ++ (print_lines (lines n.children) ++ m.0) =
    ap (λ k. drop k t) there ∙ sym (drop-drop (suc (length l)) h.start t) ∙ ap (drop (suc (length l))) (split ∙ sym (append_assoc l (10 ∷ []) after))
    ∙ drop_at (l ++ 10 ∷ []) after (suc (length l)) (omega (arith, length-append l (10 ∷ [])))
    ∙ ap (λ x. x ++ m.0) (print_lines-append n.section (lines n.children)) ∙ append_assoc (print_lines n.section) (print_lines (lines n.children)) m.0 in
    record {
      start = omega (arith, line, start);
      end = end;
      bytes = ap (λ k. take k (drop from t)) long ∙ ap (take (size n.section)) rest ∙ take_at (print_lines n.section) (print_lines (lines n.children) ++ m.0) (size n.section) refl;
    }

-- the same as the code says it
pub section_at : (t u : List ℕ) (i : ℕ) (h : Heading) (later : List Heading) (from end : ℕ) → u ≡ t → terminated t ≡ t → i < node_count (tree t) → h ≡ heading_of (node_at (tree t) i) → later ≡ drop (i + 1) (node_headings t)
    → ((l more : List ℕ) → IsLine l → drop h.start u ≡ l ++ 10 ∷ more → from ≡ h.start + length l + 1)
    → end ≡ start_or later (length u)
    → IsSection t (node_at (tree t) i) (record { start = from; end = end })
section_at t u i h later from end ue c lt he le found ee =
    let ends : start_or (drop (suc i) (node_headings t)) (length t) ≡ end =
    sym (ee ∙ ap (λ xs. start_or xs (length u)) (le ∙ ap (λ k. drop k (node_headings t)) (add-one i)) ∙ ap (λ u. start_or (drop (suc i) (node_headings t)) (length u)) ue) in
    let line : (l more : List ℕ) → IsLine l → drop h.start t ≡ l ++ 10 ∷ more → from ≡ h.start + length l + 1 = λ l more is split. found l more is (ap (drop h.start) ue ∙ split) in
    let E : ℕ → Type 0 = λ end. IsSection t (node_at (tree t) i) (record { start = from; end = end }) in
    subst E ends (section_is t i h from c lt (heading_at t i h lt he) line)

pub start_room : (t u : List ℕ) (i : ℕ) (h : Heading) → u ≡ t → terminated t ≡ t → i < node_count (tree t) → h ≡ heading_of (node_at (tree t) i) → h.start ≤ length u
start_room t u i h ue c lt he =
    let m = from_node t i h c lt (heading_at t i h lt he) in
    let n = (node_at (tree t) i).node in
    let some : 0 < length (print_node n ++ m.0) = omega (arith, length-append (print_node n) m.0, size-cons (heading_line n.level n.rest) (n.section ++ lines n.children)) in
    omega (arith, some, ap length m.1, length-drop h.start t, ap length ue)
