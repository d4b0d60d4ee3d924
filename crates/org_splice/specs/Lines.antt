-- Texts: lists of bytes, read as lines that end with a newline (Org Syntax, "Terminology and
-- conventions").
use Rattle.std.specs.Prelude.{◌≢◌, ℕ, Bool, true, ◌==◌, List, [], ◌∷◌, ◌++◌, if◌then◌else◌}
use Rattle.std.specs.List.{AllByRecursion}

-- t with a newline at its end, where it has bytes and does not end in one
abbrev pub terminated : List ℕ → List ℕ
terminated [] = []
terminated (b ∷ []) = if b == 10 then b ∷ [] else b ∷ 10 ∷ []
terminated (b ∷ c ∷ bs) = b ∷ terminated (c ∷ bs)

-- whether a text is terminated: it is empty, or ends in a newline
abbrev pub is_terminated : List ℕ → Bool
is_terminated [] = true
is_terminated (b ∷ []) = b == 10
is_terminated (b ∷ c ∷ bs) = is_terminated (c ∷ bs)

-- the lines, each with its newline
abbrev pub print_lines : List (List ℕ) → List ℕ
print_lines [] = []
print_lines (l ∷ ls) = l ++ 10 ∷ print_lines ls

-- the bytes of a line have no newline
abbrev pub IsLine : List ℕ → Type 0
IsLine l = AllByRecursion (λ b. b ≢ 10) l

-- b put at the front of the first line
abbrev pub with_byte : ℕ → List (List ℕ) → List (List ℕ)
with_byte b [] = (b ∷ []) ∷ []
with_byte b (l ∷ ls) = (b ∷ l) ∷ ls

-- the lines of a text, without their newlines; the last may lack its newline
abbrev pub lines_of : List ℕ → List (List ℕ)
lines_of [] = []
lines_of (b ∷ bs) = if b == 10 then [] ∷ lines_of bs else with_byte b (lines_of bs)
