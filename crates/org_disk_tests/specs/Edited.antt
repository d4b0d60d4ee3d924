-- Changed texts by the names of their files, in the order of their first put.
use Rattle.std.specs.Prelude.{ℕ, List, [], ◌∷◌, if◌then◌else◌}
use Rattle.std.specs.Str.{bytes_eq}
use Rattle.org_splice.specs.Texts.{EditedText}

-- the changes with one more: a name that is there keeps its place and takes the text, and another
-- goes last
abbrev pub with_text : List (List ℕ × EditedText) → List ℕ → EditedText → List (List ℕ × EditedText)
with_text [] name text = (name, text) ∷ []
with_text (change ∷ changes) name text =
    if bytes_eq name change.0 then (change.0, text) ∷ changes
    else change ∷ with_text changes name text
