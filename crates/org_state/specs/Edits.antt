-- Edits of a heading's own lines, as edits of the text.
use Rattle.std.specs.Prelude.{◌≡◌, ℕ, ◌+◌, ◌≤◌, List, length}
use Rattle.org_splice.specs.Lines.{print_lines}
use Rattle.org_meta.specs.Edits.{Rewrites}
use Rattle.org_splice.specs.declared.edit.Edit.{Edit}
use Rattle.org_splice.specs.Edits.{applied}
use Rattle.org_headings.specs.Text.{heading_line}
use Rattle.org_outline.specs.Tree.{Document, node_at}

-- where the rest of heading i begins in the print, after its stars
abbrev pub rest_start : Document → ℕ → ℕ
rest_start d i = (node_at d i).at + (node_at d i).node.level

-- where its section begins
abbrev pub section_start : Document → ℕ → ℕ
section_start d i =
    (node_at d i).at + length (heading_line (node_at d i).node.level (node_at d i).node.rest) + 1

-- the edit of a part of a text that begins at `start`
abbrev pub moved : ℕ → Edit → Edit
moved start e = record { at = start + e.at; removed = e.removed; bytes = e.bytes }

-- the edit lies in the rest of a heading line and gives this one
pub record RewritesRest (e : Edit) (rest new : List ℕ) : Type 0 where
  pub within : e.at + e.removed ≤ length rest
  pub gives : applied e rest ≡ new

-- the edit of the text makes of heading i's rest this one
pub record EditsRest (e : Edit) (d : Document) (i : ℕ) (new : List ℕ) : Type 0 where
  pub own : Edit
  pub is : e ≡ moved (rest_start d i) own
  pub gives : RewritesRest own (node_at d i).node.rest new

-- the edit of the text makes of heading i's section these lines
pub record EditsSection (e : Edit) (d : Document) (i : ℕ) (new : List (List ℕ)) : Type 0 where
  pub own : Edit
  pub is : e ≡ moved (section_start d i) own
  pub gives : Rewrites own (print_lines (node_at d i).node.section) new
