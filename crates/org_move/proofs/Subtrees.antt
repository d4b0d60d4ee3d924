-- The lines of a subtree with other lines in the place of its root's section.
use Rattle.std.proofs.Common.{◌≡◌, ℕ, ◌+◌, ◌<◌, ◌≤◌, List, [], ◌∷◌, ◌++◌, length, append_assoc, sym, ap, ◌∙◌, arith, length-append}
use Rattle.std.proofs.lemmas.Grind.{common_steps}
use Rattle.std.specs.Prelude.{slice_range}
use Rattle.org_splice.specs.Lines.{terminated, print_lines, lines_of}
use Rattle.org_splice.specs.declared.Span.{Span}
use Rattle.org_splice.proofs.Lines.{print_lines-append, print_lines-lines_of, size-append}
use Rattle.org_outline.specs.Outline.{IsSection, IsSubtree}
use Rattle.org_headings.specs.Text.{heading_line}
use Rattle.org_outline.specs.Tree.{Node, lines, own_lines, print_node, tree, node_at, node_count}
use Rattle.org_outline.proofs.Changes.{take_local}
use Rattle.org_move.proofs.Made.{prints}

-- a part of a text between two others
middle : (t x y z : List ℕ) (from end : ℕ) → t ≡ x ++ (y ++ z) → from ≡ length x → end ≡ length x + length y → slice_range t from end ≡ y
middle t x y z from end is from_is end_is = grind (arith, common_steps)

-- a node's lines: its heading line, its section, and its children
node_text : (node : Node) → print_node node ≡ (heading_line node.level node.rest ++ 10 ∷ []) ++ (print_lines node.section ++ print_lines (lines node.children))
node_text node = grind (arith, common_steps, heading_line, lines, print_lines-append, own_lines, append_assoc)

pub other_section : (t u : List ℕ) (i : ℕ) (s o : Span) (section first second new : List ℕ) → u ≡ t → terminated t ≡ t → i < node_count (tree t)
    → IsSubtree t (node_at (tree t) i) s → IsSection t (node_at (tree t) i) o → terminated section ≡ section
    → first ≡ slice_range u s.start o.start → second ≡ first ++ section → new ≡ second ++ slice_range u o.end s.end
    → new ≡ print_node (record (node_at (tree t) i).node { section = lines_of section })
other_section t u i s o section first second new same stays_terminated lt sub sec whole first_is second_is new_is =
    let node : Node = (node_at (tree t) i).node in
    let at = take_local i (tree t) lt in
    let head : List ℕ = heading_line node.level node.rest ++ 10 ∷ [] in
    let body : List ℕ = print_lines node.section in
    let tail : List ℕ = print_lines (lines node.children) in
    let print_is : print_node node ≡ head ++ (body ++ tail) = node_text node in
    let text : u ≡ at.front ++ ((head ++ (body ++ tail)) ++ at.back) =
    same ∙ sym (prints t stays_terminated) ∙ at.is ∙ ap (λ (p : List ℕ). at.front ++ (p ++ at.back)) print_is in
    let before : u ≡ at.front ++ (head ++ ((body ++ tail) ++ at.back)) = text ∙ ap (λ (p : List ℕ). at.front ++ p) (append_assoc head (body ++ tail) at.back) in
    let behind : u ≡ (at.front ++ (head ++ body)) ++ (tail ++ at.back) =
    before ∙ ap (λ (p : List ℕ). at.front ++ (head ++ p)) (append_assoc body tail at.back)
    ∙ ap (λ (p : List ℕ). at.front ++ p) (sym (append_assoc head body (tail ++ at.back)))
    ∙ sym (append_assoc at.front (head ++ body) (tail ++ at.back)) in
    let head_size = length-append (heading_line node.level node.rest) (10 ∷ []) in
    let own_size : length (print_lines (own_lines node)) ≡ length head + length body =
    ap length (sym (append_assoc (heading_line node.level node.rest) (10 ∷ []) body)) ∙ length-append head body in
    let node_size : length (print_node node) ≡ length head + (length body + length tail) =
    ap length print_is ∙ length-append head (body ++ tail) ∙ ap (λ n. length head + n) (length-append body tail) in
    let front_size : length (at.front ++ (head ++ body)) ≡ length at.front + (length head + length body) =
    length-append at.front (head ++ body) ∙ ap (λ n. length at.front + n) (length-append head body) in
    let first_part : slice_range u s.start o.start ≡ head =
    middle u at.front head ((body ++ tail) ++ at.back) s.start o.start before (omega (arith, sub.start, at.at)) (omega (arith, sec.start, at.at, head_size)) in
    let last_part : slice_range u o.end s.end ≡ tail =
    middle u (at.front ++ (head ++ body)) tail at.back o.end s.end behind (omega (arith, sec.end, at.at, own_size, front_size)) (omega (arith, sub.end, at.at, node_size, front_size)) in
    let made : new ≡ (head ++ section) ++ tail =
    new_is ∙ ap (λ (p : List ℕ). p ++ slice_range u o.end s.end) (second_is ∙ ap (λ (p : List ℕ). p ++ section) (first_is ∙ first_part)) ∙ ap (λ (p : List ℕ). (head ++ section) ++ p) last_part in
    let again : print_lines (lines_of section) ≡ section = print_lines-lines_of section ∙ whole in
    made ∙ append_assoc head section tail ∙ ap (λ (p : List ℕ). head ++ (p ++ tail)) (sym again)
    ∙ sym (node_text (record node { section = lines_of section }))

-- the section ends in the subtree
pub section_ends : (t : List ℕ) (i : ℕ) (s o : Span) → IsSubtree t (node_at (tree t) i) s → IsSection t (node_at (tree t) i) o → o.end ≤ s.end
section_ends t i s o sub sec = grind (arith, common_steps, size-append, own_lines, lines)
