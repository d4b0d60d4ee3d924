-- Headings of texts that are held.
use Rattle.std.specs.Prelude.{◌≡◌, ◌<◌, ℕ, List, Some}
use Rattle.org_splice.specs.Texts.{EditedText}
use Rattle.org_outline.specs.Tree.{node_count, tree}
use Rattle.org_texts.specs.Texts.{TextSet, text_of}

-- the text that a set has of a name has a heading of this number
abbrev pub HasHeading : TextSet → List ℕ → ℕ → Type 0
HasHeading set name i =
    (text : EditedText) × (text_of set name ≡ Some text) × (i < node_count (tree text.bytes))
