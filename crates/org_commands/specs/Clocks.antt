-- The clock that runs over the files of a store (Org manual, "Clocking commands").
use Rattle.std.specs.Prelude.{◌≡◌, ℕ, List, [], ◌∷◌, Option, None, Some}
use Rattle.std.specs.Option.{option_map, option_or}
use Rattle.org_splice.specs.Texts.{EditedText}
use Rattle.org_outline.specs.Tree.{tree}
use Rattle.org_texts.specs.Texts.{Holding, TextSet, text_of}
use Rattle.org_state.specs.declared.run.Running.{Running}
use Rattle.org_state.specs.Clock.{running_in}

-- The first clock that runs in files of these names, in byte order, with these texts: the name of
-- its file, and where it runs in the text.
abbrev pub running_over : List (List ℕ) → List (List ℕ) → Option (List ℕ × Running)
running_over [] texts = None
running_over (name ∷ names) [] = None
running_over (name ∷ names) (text ∷ texts) =
    option_or (option_map (λ running. (name, running)) (running_in (tree text)))
    (running_over names texts)

-- this clock runs in the text that a set has of a name, or none does
abbrev pub RunsIn : TextSet → List ℕ → Option Running → Type 0
RunsIn set name found =
    (text : EditedText) × (text_of set name ≡ Some text) × (running_in (tree text.bytes) ≡ found)

-- the clock runs in the text that is held of its file
abbrev pub RunsHeld : Holding → List ℕ → Running → Type 0
RunsHeld held file running =
    (text : EditedText)
    × (text_of held.before file ≡ Some text)
    × (running_in (tree text.bytes) ≡ Some running)
