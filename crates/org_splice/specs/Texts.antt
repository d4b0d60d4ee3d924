-- Edited texts: bytes, with the ranges in which they were changed since the text was last settled,
-- or new.
use Rattle.std.specs.Prelude.{◌≡◌, ℕ, ◌+◌, ◌-◌, ◌<◌, List, [], ◌∷◌, ◌++◌, map, length, take, drop, slice_get, slice_range, if◌then◌else◌}
use Rattle.org_splice.specs.declared.Span.{Span}
use Rattle.org_splice.specs.declared.edit.Edit.{Edit}
use Rattle.org_splice.specs.declared.patch.Patch.{Patch}
use Rattle.org_splice.specs.Lines.{is_terminated}
use Rattle.org_splice.specs.Ranges.{IsUnchanged, changed_by}

pub record EditedText : Type 0 where
  pub bytes : List ℕ
  pub changed : List Span

-- A text was made from this one by edits: outside the changed ranges it has its bytes.
pub record IsEditOf (old : List ℕ) (text : EditedText) : Type 0 where
  pub same : (i : ℕ) → i < length text.bytes → IsUnchanged text.changed i
      → slice_get old i ≡ slice_get text.bytes i

-- a text with no edit
abbrev pub settled : List ℕ → EditedText
settled bytes = record { bytes = bytes; changed = [] }

-- a text where `removed` bytes from `at` on gave way to others
abbrev pub spliced : ℕ → ℕ → List ℕ → EditedText → EditedText
spliced at removed bytes text = record {
  bytes = take at text.bytes ++ bytes ++ drop (at + removed) text.bytes;
  changed = changed_by at removed (length bytes)
      (length text.bytes - removed + length bytes) text.changed;
}

-- a text with a newline put at its end, where it has bytes and doesn't end in one
abbrev pub terminated_text : EditedText → EditedText
terminated_text text =
    if is_terminated text.bytes then text else spliced (length text.bytes) 0 (10 ∷ []) text

-- a text with edits, one after another
abbrev pub spliced_each : List Edit → EditedText → EditedText
spliced_each [] text = text
spliced_each (edit ∷ edits) text = spliced_each edits (spliced edit.at edit.removed edit.bytes text)

-- the patch that writes a range
abbrev pub patch_of : List ℕ → Span → ℕ × List ℕ
patch_of bytes range = (range.start, slice_range bytes range.start range.end)

-- the patches that write the changed ranges, and an empty one where there are none
abbrev pub patches_of : EditedText → List (ℕ × List ℕ)
patches_of text = patches_at text.bytes text.changed
  where
    patches_at : List ℕ → List Span → List (ℕ × List ℕ)
    patches_at bytes [] = (0, []) ∷ []
    patches_at bytes (range ∷ ranges) = map (patch_of bytes) (range ∷ ranges)

-- each patch as a pair of its place and its bytes
abbrev pub pairs_of : List Patch → List (ℕ × List ℕ)
pairs_of patches = map (λ patch. (patch.from, patch.bytes)) patches
