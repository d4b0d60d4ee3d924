-- How many headings of a text begin before a byte of it.
use Rattle.std.proofs.Common.{◌≡◌, ℕ, ltb, List, [], ◌∷◌, true, refl, sym, ap, subst, ◌∙◌, arith}
use Rattle.std.proofs.lemmas.Grind.{common_steps}
use Rattle.std.specs.Prelude.{map}
use Rattle.std.specs.List.{prefix_len}
use Rattle.std.specs.List.Sorted.{IsNonDecreasingBy}
use Rattle.org_headings.specs.declared.heads.Heading.{Heading}
use Rattle.org_splice.specs.Lines.{terminated}
use Rattle.org_outline.specs.Tree.{Placed, nodes_of}
use Rattle.org_outline.specs.Outline.{heading_of, node_headings}
use Rattle.org_outline.proofs.Nodes.{node_headings-are}
use Rattle.org_headings.proofs.HeadsFrom.{heads_from-text}
use Rattle.org_headings.proofs.Edits.{rising}

-- the headings of a text stand in the order of their starts
pub headings_rise : (t : List ℕ) (hs : List Heading) → terminated t ≡ t → hs ≡ node_headings t → IsNonDecreasingBy (λ (h : Heading). h.start) hs
headings_rise t hs c same =
    let P : List Heading → Type 0 = λ l. IsNonDecreasingBy (λ (h : Heading). h.start) l in
    subst P (heads_from-text t c ∙ sym (node_headings-are t) ∙ sym same) (rising 0 true t)

by_nodes : (position : ℕ) (ps : List Placed) → prefix_len (λ (h : Heading). ltb h.start position) (map heading_of ps) ≡ prefix_len (λ (p : Placed). ltb p.at position) ps
by_nodes position [] = refl
by_nodes position (p ∷ ps) = grind (arith, common_steps, by_nodes position ps)

-- a count of headings is one of nodes
pub count_of_nodes : (t : List ℕ) (hs : List Heading) (position n : ℕ) → hs ≡ node_headings t → n ≡ prefix_len (λ (h : Heading). ltb h.start position) hs → n ≡ prefix_len (λ (p : Placed). ltb p.at position) (nodes_of t)
count_of_nodes t hs position n same is = is ∙ ap (prefix_len (λ (h : Heading). ltb h.start position)) same ∙ by_nodes position (nodes_of t)
