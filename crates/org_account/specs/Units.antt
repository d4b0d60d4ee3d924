-- A folder as its units: its files, each with the lines before its first heading, and its entries,
-- each with its section (Org Syntax, "Headings", "Sections" and "The zeroth section").
use Rattle.std.specs.Prelude.{ℕ, suc, ◌+◌, ◌-◌, List, [], ◌∷◌, ◌++◌, map, Option, None, Some}
use Rattle.std.specs.List.{range_with_len}
use Rattle.org_splice.specs.Lines.{print_lines}
use Rattle.org_outline.specs.Tree.{Document, tree, node_at, node_count, parent_of}

-- a file of a folder
pub record File : Type 0 where
  pub name : List ℕ
  pub text : List ℕ

-- A file or an entry. An entry stands below another unit, its parent or its file, `step` levels
-- deeper; its line is what follows the stars of its heading. A file's line is its name. The section
-- is the text up to the next heading.
pub record Unit : Type 0 where
  pub above : Option ℕ
  pub step : ℕ
  pub line : List ℕ
  pub section : List ℕ

-- the number of the unit that an entry stands below, where `at` is the number of its file
abbrev pub above_at : ℕ → Option ℕ → ℕ
above_at at None = at
above_at at (Some i) = at + 1 + i

-- how many stars more an entry has than its parent
abbrev pub level_of_parent : Document → Option ℕ → ℕ
level_of_parent d None = 0
level_of_parent d (Some i) = (node_at d i).node.level

abbrev pub step_of : Document → ℕ → ℕ
step_of d i = (node_at d i).node.level - level_of_parent d (parent_of d i)

-- the file itself
abbrev pub file_unit : File → Unit
file_unit file = record {
  above = None;
  step = 0;
  line = file.name;
  section = print_lines (tree file.text).preamble;
}

-- the entry with this number in its file
abbrev pub entry_unit : ℕ → Document → ℕ → Unit
entry_unit at d i = record {
  above = Some (above_at at (parent_of d i));
  step = step_of d i;
  line = (node_at d i).node.rest;
  section = print_lines (node_at d i).node.section;
}

-- a file and its entries in document order
abbrev pub units_at : ℕ → File → List Unit
units_at at file =
    file_unit file
    ∷ map (entry_unit at (tree file.text)) (range_with_len 0 (node_count (tree file.text)))

-- the units of these files, where `at` is the number of the first
abbrev pub units_from : ℕ → List File → List Unit
units_from at [] = []
units_from at (file ∷ files) =
    units_at at file ++ units_from (at + suc (node_count (tree file.text))) files

-- the units of a folder
abbrev pub units_of : List File → List Unit
units_of files = units_from 0 files
