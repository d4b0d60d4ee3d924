-- Texts that are held in memory by the names of their files, as callers see them.
use Rattle.std.specs.Prelude.{◌≡◌, ℕ, Bool, Option, Some, None, List, [], ◌∷◌, ◌++◌, map, if◌then◌else◌, IfSome, slice_get}
use Rattle.std.specs.List.{list_any, position}
use Rattle.std.specs.Map.{keys_of, lookup, values_of}
use Rattle.std.specs.Option.{is_some}
use Rattle.std.specs.Str.{bytes_eq}
use Rattle.org_splice.specs.Texts.{EditedText, terminated_text, settled}
use Rattle.org_texts.specs.Held.{HeldText}

-- Texts under the names of their files, each name once; and the names of the dirty ones, in the
-- order of their first touch.
pub record TextSet : Type 0 where
  pub texts : List (List ℕ × EditedText)
  pub dirty : List (List ℕ)

-- The texts as they are, and as they were before the command that runs; and for each whether its
-- headings are held.
pub record Holding : Type 0 where
  pub now : TextSet
  pub before : TextSet
  pub ready : List (List ℕ × Bool)

-- no text
abbrev pub nothing_held : TextSet
nothing_held = record { texts = []; dirty = [] }

-- the text of a name
abbrev pub text_of : TextSet → List ℕ → Option EditedText
text_of set name = lookup (bytes_eq name) set.texts

abbrev pub bytes_or : List ℕ → Option EditedText → List ℕ
bytes_or bytes None = bytes
bytes_or bytes (Some text) = text.bytes

-- the files, with the held texts in place of their own
abbrev pub held_over : TextSet → (List ℕ → List ℕ) → List ℕ → List ℕ
held_over set files name = bytes_or (files name) (text_of set name)

-- the texts with one more, which the disk has
abbrev pub with_text : List ℕ → List ℕ → TextSet → TextSet
with_text name bytes set =
    record { texts = set.texts ++ (name, settled bytes) ∷ []; dirty = set.dirty }

-- the values by name, with the one of this name changed
abbrev pub with_change : {X : Type 0} → List ℕ → (X → X) → List (List ℕ × X) → List (List ℕ × X)
with_change name change [] = []
with_change name change (e ∷ es) =
    if bytes_eq name e.0 then (e.0, change e.1) ∷ es else e ∷ with_change name change es

-- the names with one more, if it isn't there
abbrev pub with_name : List ℕ → List (List ℕ) → List (List ℕ)
with_name name names = if list_any (bytes_eq name) names then names else names ++ name ∷ []

-- the texts with the one of this name terminated; a command touches it by that, and it is dirty
abbrev pub terminated_in : List ℕ → TextSet → TextSet
terminated_in name set = record {
  texts = with_change name terminated_text set.texts;
  dirty = with_name name set.dirty;
}

-- the texts as the disk has them after a commit: none is dirty
abbrev pub settled_set : TextSet → TextSet
settled_set set = record { texts = map (λ e. (e.0, settled e.1.bytes)) set.texts; dirty = [] }

abbrev pub text_or_none : Option EditedText → EditedText
text_or_none None = settled []
text_or_none (Some text) = text

-- what a commit is given: each dirty name with its text
abbrev pub pairs : TextSet → List (List ℕ × EditedText)
pairs set = map (λ name. (name, text_or_none (text_of set name))) set.dirty

-- a held text by its name, as it is, and as it was before the command
abbrev pub now_of : List ℕ × HeldText → List ℕ × EditedText
now_of e = (e.0, e.1.text)

abbrev pub before_of : List ℕ × HeldText → List ℕ × EditedText
before_of e = (e.0, e.1.before)

abbrev pub ready_of : List ℕ × HeldText → List ℕ × Bool
ready_of e = (e.0, e.1.ready)

-- the same, as it is after a commit
abbrev pub on_disk : List ℕ × HeldText → List ℕ × EditedText
on_disk e = (e.0, settled e.1.text.bytes)

-- where a name stands, if it is there, and what is held of it
pub record IsPlace (name : List ℕ) (es : List (List ℕ × HeldText)) (place : Option ℕ) : Type 0 where
  pub named : place ≡ position (bytes_eq name) (keys_of es)
  pub found : is_some place ≡ is_some (lookup (bytes_eq name) es)
  pub value : IfSome place (λ i. slice_get (values_of es) i ≡ lookup (bytes_eq name) es)
