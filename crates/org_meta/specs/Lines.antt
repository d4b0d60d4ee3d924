-- A text line by line.
use Rattle.std.specs.Prelude.{◌≡◌, ℕ, Bool, IsTrue, List, ◌∷◌, ◌++◌, drop}
use Rattle.std.specs.List.{AllByRecursion}
use Rattle.org_splice.specs.Lines.{print_lines, IsLine, lines_of}

-- The first line of a terminated text, and the text after it.
pub record BeginsWith (text line rest : List ℕ) : Type 0 where
  pub bytes : text ≡ line ++ 10 ∷ rest
  pub lines : lines_of text ≡ line ∷ lines_of rest
  pub unbroken : IsLine line

-- what follows that many lines
abbrev pub behind_lines : List ℕ → ℕ → List ℕ
behind_lines text n = print_lines (drop n (lines_of text))

-- each line passes the test
abbrev pub AllPass : (List ℕ → Bool) → List (List ℕ) → Type 0
AllPass test lines = AllByRecursion (λ l. IsTrue (test l)) lines
