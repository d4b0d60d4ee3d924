-- The pieces of a text: its preamble and the sections of its nodes.
use Rattle.std.proofs.Common.{◌≡◌, ℕ, ◌<◌, ◌≤◌, List, ◌++◌, length, take, refl, sym, ap, ◌∙◌, arith, length-append}
use Rattle.std.proofs.lemmas.Grind.{common_steps}
use Rattle.std.proofs.lemmas.List.{append-nil, take_at}
use Rattle.org_splice.specs.Lines.{terminated, print_lines}
use Rattle.org_splice.specs.declared.Span.{Span}
use Rattle.org_splice.proofs.Lines.{print_lines-append, size-append}
use Rattle.org_outline.specs.Outline.{IsSection}
use Rattle.org_outline.specs.Tree.{Forest, Empty, Tree, Document, print, lines, own_lines, tree, node_at, node_count, nodes_from}
use Rattle.org_outline.proofs.Trees.{tree-is}
use Rattle.org_outline.proofs.Changes.{take_local}

prints : (t : List ℕ) → terminated t ≡ t → print (tree t) ≡ t
prints t whole = (tree-is t).prints ∙ whole

-- the section lies in the text
pub section_within : (t u : List ℕ) (i : ℕ) (s : Span) → u ≡ t → terminated t ≡ t → i < node_count (tree t) → IsSection t (node_at (tree t) i) s → s.end ≤ length u
section_within t u i s same whole lt is = grind (arith, common_steps, take_local, length-append, size-append, own_lines, lines, prints)

parts : (d : Document) → print d ≡ print_lines d.preamble ++ print_lines (lines d.forest)
parts d = print_lines-append d.preamble (lines d.forest)

-- a document without nodes
none_of : (d : Document) → node_count d ≡ 0 → print d ≡ print_lines d.preamble
none_of d e = none d.preamble d.forest e
  where
    none : (p : List (List ℕ)) (f : Forest) → length (nodes_from (length (print_lines p)) f) ≡ 0 → print_lines (p ++ lines f) ≡ print_lines p
    none p Empty e = ap print_lines (append-nil p)
    none p (Tree n r s kids later) e = absurd (omega arith)

first_of : (p : List (List ℕ)) (f : Forest) → 0 < length (nodes_from (length (print_lines p)) f) → (node_at (record { preamble = p; forest = f }) 0).at ≡ length (print_lines p)
first_of p Empty lt = absurd (omega arith)
first_of p (Tree n r s kids later) lt = refl

pub preamble_whole : (t u : List ℕ) → u ≡ t → terminated t ≡ t → node_count (tree t) ≡ 0 → u ≡ print_lines (tree t).preamble
preamble_whole t u same whole none = same ∙ sym (prints t whole) ∙ none_of (tree t) none

pub preamble_end : (t : List ℕ) (at : ℕ) → terminated t ≡ t → 0 < node_count (tree t) → at ≡ (node_at (tree t) 0).at → at ≡ length (print_lines (tree t).preamble)
preamble_end t at whole lt e = e ∙ first_of (tree t).preamble (tree t).forest lt

pub preamble_within : (t u : List ℕ) (at : ℕ) → u ≡ t → terminated t ≡ t → 0 < node_count (tree t) → at ≡ (node_at (tree t) 0).at → at ≤ length u
preamble_within t u at same whole lt e =
    let d = tree t in
    omega (arith, preamble_end t at whole lt e, ap length same, ap length (prints t whole), ap length (parts d), length-append (print_lines d.preamble) (print_lines (lines d.forest)))

pub preamble_front : (t u : List ℕ) (at : ℕ) → u ≡ t → terminated t ≡ t → 0 < node_count (tree t) → at ≡ (node_at (tree t) 0).at → take at u ≡ print_lines (tree t).preamble
preamble_front t u at same whole lt e =
    let d = tree t in
    ap (take at) (same ∙ sym (prints t whole) ∙ parts d) ∙ take_at (print_lines d.preamble) (print_lines (lines d.forest)) at (sym (preamble_end t at whole lt e))
