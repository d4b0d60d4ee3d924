-- Heading lines (Org Syntax, "Headings").
use Rattle.std.specs.Prelude.{ℕ, ◌==◌, Bool, not, ◌&&◌, List, ◌++◌, if◌then◌else◌, slice_index, nat_lt, replicate, Option, None, Some}
use Rattle.std.specs.List.{prefix_len}
use Rattle.org_splice.specs.Blanks.{front}

-- how many stars a line begins with
abbrev pub stars : List ℕ → ℕ
stars l = prefix_len (λ b. b == 42) l

abbrev pub begins_with_space : List ℕ → Bool
begins_with_space l = slice_index l 0 == 32

-- the level of a heading line: the count of its stars, one or more, where a space follows them
-- directly
abbrev pub level_of : List ℕ → Option ℕ
level_of l = if nat_lt 0 (stars l) && slice_index l (stars l) == 32 then Some (stars l) else None

-- a heading line of level n: n stars, and then a rest that begins with a space
abbrev pub heading_line : ℕ → List ℕ → List ℕ
heading_line n rest = replicate n 42 ++ rest

-- the line that a text begins with, without its newline
abbrev pub line_at : List ℕ → List ℕ
line_at t = front (λ b. not (b == 10)) t
