-- Edits of the lines of a text, and the place of a line that is put into one.
use Rattle.std.specs.Prelude.{◌≡◌, ℕ, ◌+◌, ◌≤◌, List, [], ◌∷◌, ◌++◌, length}
use Rattle.org_splice.specs.Lines.{print_lines}
use Rattle.org_splice.specs.Edits.{applied}
use Rattle.org_splice.specs.declared.edit.Edit.{Edit}
use Rattle.org_meta.specs.declared.lines.Place.{Place}
use Rattle.org_meta.specs.Sections.{SectionParts, joined}

-- The edit lies in the text and gives these lines.
pub record Rewrites (e : Edit) (text : List ℕ) (lines : List (List ℕ)) : Type 0 where
  pub within : e.at + e.removed ≤ length text
  pub gives : applied e text ≡ print_lines lines

-- The edit gives the section of these parts.
abbrev pub RewritesParts : Edit → List ℕ → SectionParts → Type 0
RewritesParts e section parts = Rewrites e section (joined parts)

-- The edit is at the section's first byte, removes nothing and puts nothing in.
pub record ChangesNothing (e : Edit) : Type 0 where
  pub at : e.at ≡ 0
  pub removed : e.removed ≡ 0
  pub bytes : e.bytes ≡ []

-- The place is in the text: the lines `before` come before it, and a line put there takes the place
-- of the lines `old`. With the line put there, the text has the lines that `result` says.
pub record IsPlaceFor (result : List ℕ → List (List ℕ)) (text : List ℕ) (place : Place)
    : Type 0 where
  pub before : List (List ℕ)
  pub old : List (List ℕ)
  pub after : List (List ℕ)
  pub whole : text ≡ print_lines before ++ place.left.now
  pub left : place.left.now ≡ print_lines old ++ print_lines after
  pub removed : place.removed ≡ length (print_lines old)
  pub gives : (line : List ℕ) → result line ≡ before ++ (line ∷ after)
