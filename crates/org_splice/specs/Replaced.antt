-- Bytes of a text put in the place of others, where the text still has those.
use Rattle.std.specs.Prelude.{ℕ, Bool, ◌&&◌, nat_le, List, length, take, drop, Option, Some, None, if◌then◌else◌}
use Rattle.std.specs.Str.{bytes_eq}
use Rattle.org_splice.specs.Edits.{edited}

-- whether the text has these bytes from `at` on
abbrev pub has_at : List ℕ → ℕ → List ℕ → Bool
has_at text at old = nat_le at (length text) && bytes_eq old (take (length old) (drop at text))

-- the text with `new` in the place of `old` from `at` on; none where it doesn't have `old` there
abbrev pub replaced : List ℕ → ℕ → List ℕ → List ℕ → Option (List ℕ)
replaced text at old new =
    if has_at text at old then Some (edited at (length old) new text) else None

-- what is made of a text, if there is one
abbrev pub replaced_then : Option (List ℕ) → ℕ → List ℕ → List ℕ → Option (List ℕ)
replaced_then None at old new = None
replaced_then (Some text) at old new = replaced text at old new
