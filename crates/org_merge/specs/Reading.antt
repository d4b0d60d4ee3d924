-- A text as a merge is accounted for: each line has its newline, and no carriage return at its end.
-- So an edit of a file whose lines end in carriage returns, and one of the same file without them,
-- are edits of the same lines.
use Rattle.std.specs.Prelude.{ℕ, ◌==◌, Bool, List, map}
use Rattle.org_splice.specs.Blanks.{without_end}
use Rattle.org_splice.specs.Lines.{lines_of, print_lines}

abbrev pub is_return : ℕ → Bool
is_return byte = byte == 13

abbrev pub bare : List ℕ → List ℕ
bare line = without_end is_return line

abbrev pub as_read : List ℕ → List ℕ
as_read text = print_lines (map bare (lines_of text))
