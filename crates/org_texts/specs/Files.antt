-- What held texts say of the files that they stand for.
use Rattle.std.specs.Prelude.{◌≡◌, Bool, false, ℕ, List, Some, length, if◌then◌else◌}
use Rattle.std.specs.List.{list_any}
use Rattle.std.specs.Map.{keys_of}
use Rattle.std.specs.Str.{bytes_eq}
use Rattle.org_splice.specs.Edits.{applied_each}
use Rattle.org_splice.specs.Lines.{terminated}
use Rattle.org_splice.specs.Ranges.{AreChanged}
use Rattle.org_splice.specs.Texts.{EditedText, IsEditOf}
use Rattle.org_texts.specs.declared.plan.FileEdits.{FileEdits}
use Rattle.org_texts.specs.Inside.{AreAmong}
use Rattle.org_texts.specs.Texts.{TextSet, text_of}

-- whether the text of a name is dirty
abbrev pub is_dirty : TextSet → List ℕ → Bool
is_dirty set name = list_any (bytes_eq name) set.dirty

-- A text made of a file: outside the ranges that were changed it has the file's bytes, and it is
-- the file where it isn't dirty.
pub record IsTextOf (file : List ℕ) (dirty : Bool) (text : EditedText) : Type 0 where
  pub edit : IsEditOf file text
  pub ranges : AreChanged (length text.bytes) text.changed
  pub same : dirty ≡ false → text.bytes ≡ file

-- Each text is made of its file, and each dirty name has a text.
pub record StandOver (files : List ℕ → List ℕ) (set : TextSet) : Type 0 where
  pub each : (name : List ℕ) (text : EditedText) → text_of set name ≡ Some text
      → IsTextOf (files name) (is_dirty set name) text
  pub held : AreAmong (keys_of set.texts) set.dirty

-- the files with the edits of one of them
abbrev pub files_with : FileEdits → (List ℕ → List ℕ) → List ℕ → List ℕ
files_with change files name =
    if bytes_eq change.file name then applied_each change.edits.items (files name) else files name

-- the files with this one terminated
abbrev pub files_terminated : List ℕ → (List ℕ → List ℕ) → List ℕ → List ℕ
files_terminated own files name = if bytes_eq own name then terminated (files name) else files name
