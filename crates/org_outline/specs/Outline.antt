-- The nodes of a text by their headings.
use Rattle.std.specs.Prelude.{◌≡◌, ℕ, ◌+◌, List, map, length, slice_range}
use Rattle.org_headings.specs.declared.heads.Heading.{Heading}
use Rattle.org_splice.specs.declared.Span.{Span}
use Rattle.org_splice.specs.Lines.{print_lines}
use Rattle.org_headings.specs.Beginnings.{beginnings_of}
use Rattle.org_headings.specs.Text.{heading_line}
use Rattle.org_outline.specs.Tree.{Placed, own_lines, print_node, nodes_of}

abbrev pub heading_of : Placed → Heading
heading_of p = record { start = p.at; level = p.node.level; beginnings = beginnings_of p.node.rest }

-- the headings of a text's nodes, in document order: they are the headings of the text
abbrev pub node_headings : List ℕ → List Heading
node_headings t = map heading_of (nodes_of t)

-- the span holds the print of a node, and begins where it stands
pub record IsSubtree (t : List ℕ) (p : Placed) (s : Span) : Type 0 where
  pub start : s.start ≡ p.at
  pub end : s.end ≡ p.at + length (print_node p.node)
  pub bytes : slice_range t s.start s.end ≡ print_node p.node

-- the span holds a node's section, the lines between its heading line and the next one
pub record IsSection (t : List ℕ) (p : Placed) (s : Span) : Type 0 where
  pub start : s.start ≡ p.at + length (heading_line p.node.level p.node.rest) + 1
  pub end : s.end ≡ p.at + length (print_lines (own_lines p.node))
  pub bytes : slice_range t s.start s.end ≡ print_lines p.node.section
