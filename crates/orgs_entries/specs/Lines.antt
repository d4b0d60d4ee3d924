-- The lines of headings.
use Rattle.std.specs.Prelude.{ℕ, ◌+◌, ◌==◌, Bool, List, map, take, count_by}
use Rattle.std.specs.List.{range_with_len}
use Rattle.org_outline.specs.Tree.{node_at, node_count, tree}

abbrev pub is_newline : ℕ → Bool
is_newline b = b == 10

-- the line in which a place of a text lies, counted from 1 as editors count
abbrev pub line_at : List ℕ → ℕ → ℕ
line_at t at = 1 + count_by is_newline (take at t)

-- the line of the heading with a number
abbrev pub line_of : List ℕ → ℕ → ℕ
line_of t i = line_at t (node_at (tree t) i).at

-- those of all headings
abbrev pub lines_of_headings : List ℕ → List ℕ
lines_of_headings t = map (line_of t) (range_with_len 0 (node_count (tree t)))
