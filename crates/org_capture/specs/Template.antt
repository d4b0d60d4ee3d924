-- Templates, and what they stand for (Org manual, "Template expansion").
use Rattle.std.specs.Prelude.{ℕ, Bool, true, false, ◌||◌, not, ◌==◌, List, [], ◌∷◌, ◌++◌, if◌then◌else◌, Option, None, Some, Result, Ok, Err}
use Rattle.std.specs.Char.{is_ascii_alphabetic}
use Rattle.org_splice.specs.Blanks.{end_of}
use Rattle.org_stamp.specs.Calendar.{Moment}
use Rattle.org_stamp.specs.Stamp.{stamp_of, stamp_text}
use Rattle.org_capture.specs.declared.piece.Piece.{Piece}
use Rattle.org_capture.specs.declared.piece.Piece.TheVariants.{Byte, Stamp, Initial, Cursor, Unknown}
use Rattle.org_fault.specs.declared.refusal.Refusal.{Refusal}
use Rattle.org_fault.specs.declared.refusal.Refusal.TheVariants.{BadTemplate}

-- one of `( [ < ^ : * \`, which begin escapes that aren't served
abbrev pub is_escape_mark : ℕ → Bool
is_escape_mark c = c == 40 || c == 91 || c == 60 || c == 94 || c == 58 || c == 42 || c == 92

-- what a percent sign with this byte after it is, unless the sign stands for itself
abbrev pub escape_of : ℕ → Option Piece
escape_of c =
    if c == 116 then Some (Stamp true false)
    else if c == 84 then Some (Stamp true true)
    else if c == 117 then Some (Stamp false false)
    else if c == 85 then Some (Stamp false true)
    else if c == 105 then Some Initial
    else if c == 63 then Some Cursor
    else if is_ascii_alphabetic c || is_escape_mark c then Some Unknown
    else None

abbrev pub escape_at : ℕ → ℕ → Option Piece
escape_at b c = if b == 37 then escape_of c else None

-- the escapes and the other bytes of a template, in order: it is read once
abbrev pub pieces_of : List ℕ → List Piece
pieces_of [] = []
pieces_of (b ∷ []) = Byte b ∷ []
pieces_of (b ∷ c ∷ more) =
    elim (escape_at b c) [
      | None ↦ Byte b ∷ pieces_of (c ∷ more)
      | Some piece ↦ piece ∷ pieces_of more
    ]

-- the bytes after the last newline
abbrev pub last_line : List ℕ → List ℕ
last_line text = end_of (λ b. not (b == 10)) text

-- a text with these bytes repeated after each newline
abbrev pub with_prefix : List ℕ → List ℕ → List ℕ
with_prefix prefix [] = []
with_prefix prefix (b ∷ bs) =
    b ∷ (if b == 10 then prefix ++ with_prefix prefix bs else with_prefix prefix bs)

-- what a piece stands for at a moment, after a line that has begun with these bytes; None where
-- the piece isn't served
abbrev pub text_of : Moment → List ℕ → List ℕ → Piece → Option (List ℕ)
text_of moment initial line (Byte b) = Some (b ∷ [])
text_of moment initial line (Stamp active timed) = Some (stamp_text (stamp_of moment active timed))
text_of moment initial line Initial = Some (with_prefix line initial)
text_of moment initial line Cursor = Some []
text_of moment initial line Unknown = None

-- what goes on with a text, where there is one
abbrev pub with_text : Option (List ℕ) → (List ℕ → Result (List ℕ) Refusal)
    → Result (List ℕ) Refusal
with_text None go_on = Err BadTemplate
with_text (Some text) go_on = go_on text

-- the pieces filled in one by one, after a text
abbrev pub filled : Moment → List ℕ → List ℕ → List Piece → Result (List ℕ) Refusal
filled moment initial text [] = Ok text
filled moment initial text (piece ∷ pieces) =
    with_text (text_of moment initial (last_line text) piece)
    (λ more. filled moment initial (text ++ more) pieces)

-- the template with its pieces filled in; what is filled in isn't read for escapes
abbrev pub expanded : List ℕ → Moment → List ℕ → Result (List ℕ) Refusal
expanded template moment initial = filled moment initial [] (pieces_of template)
