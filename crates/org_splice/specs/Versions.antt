-- Texts under edit: what takes each edit back is kept beside the text.
use Rattle.std.specs.Prelude.{◌≡◌, ◌≤◌, ◌+◌, ◌-◌, ℕ, List, [], ◌∷◌, ◌++◌, length, take, drop}
use Rattle.org_splice.specs.Ranges.{AreChanged}
use Rattle.org_splice.specs.Texts.{EditedText}
use Rattle.org_splice.specs.declared.Span.{Span}
use Rattle.org_splice.specs.declared.undo.Undo.{Undo}

-- A text as it is, and as it was before its edits: what taking them back makes.
pub record Versions : Type 0 where
  pub text : EditedText
  pub before : EditedText

-- a text with no edit that could be taken back
abbrev pub unedited : EditedText → Versions
unedited text = record { text = text; before = text }

-- the text as it is now, where this one was before
abbrev pub revised : Versions → EditedText → Versions
revised versions text = record { text = text; before = versions.before }

-- a text of these bytes and changed ranges
abbrev pub text_of_parts : List ℕ → List Span → EditedText
text_of_parts bytes changed = record { bytes = bytes; changed = changed }

-- the text with one edit taken back
abbrev pub undone : Undo → EditedText → EditedText
undone undo text = record {
  bytes = take undo.at text.bytes ++ undo.removed ++ drop (undo.at + undo.added) text.bytes;
  changed = undo.changed.items;
}

-- the text with edits taken back, the last first
abbrev pub undone_all : List Undo → EditedText → EditedText
undone_all [] text = text
undone_all (undo ∷ undos) text = undone undo (undone_all undos text)

-- An edit of this text can be taken back where the text has this room.
pub record IsUndo (room : ℕ) (undo : Undo) (text : EditedText) : Type 0 where
  pub within : undo.at + undo.added ≤ length text.bytes
  pub fits : length text.bytes - undo.added + length undo.removed ≤ room
  pub changed : AreChanged (length text.bytes - undo.added + length undo.removed) undo.changed.items

-- each of the edits can be taken back, the last first
abbrev pub AreUndos : ℕ → List Undo → EditedText → Type 0
AreUndos room [] text = Unit {0}
AreUndos room (undo ∷ undos) text =
    AreUndos room undos text × IsUndo room undo (undone_all undos text)

-- the text that taking all edits back makes of one of these bytes and changed ranges
abbrev pub before_of : List ℕ → List Span → List Undo → EditedText
before_of bytes ranges undos = undone_all undos (text_of_parts bytes ranges)

-- The edits of a text of these bytes and changed ranges can be taken back where the text has this
-- room, and that makes this text.
pub record LeadBack (room : ℕ) (bytes : List ℕ) (ranges : List Span) (undos : List Undo)
    (text : EditedText) : Type 0 where
  pub before : before_of bytes ranges undos ≡ text
  pub changed : AreChanged (length bytes) ranges
  pub can : AreUndos room undos (text_of_parts bytes ranges)
