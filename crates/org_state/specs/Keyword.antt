-- The keyword of a heading line, and its change (Org Syntax, "Headings"; Org manual, "TODO keywords
-- as workflow states").
use Rattle.std.specs.Prelude.{ℕ, Bool, ◌||◌, ◌==◌, List, [], ◌∷◌, ◌++◌, length, drop}
use Rattle.org_splice.specs.Blanks.{is_blank, front, behind}
use Rattle.org_outline.specs.States.{Keywords, has_word}
use Rattle.org_outline.specs.Parts.{parts_of}

-- one of the states, or no state: the empty word
abbrev pub is_state : Keywords → List ℕ → Bool
is_state states word = length word == 0 || has_word states.active word || has_word states.done word

-- the state of a heading, by the rest of its line after the stars; the empty word where it has
-- none
abbrev pub keyword_in : Keywords → List ℕ → List ℕ
keyword_in states rest = (parts_of states rest).keyword

-- a text that begins with the old word, or has none where that is empty, with the new one in its
-- place: a word that is put in has a space after it, and one that goes takes the blanks after it
-- along
abbrev pub with_word : List ℕ → List ℕ → List ℕ → List ℕ
with_word old [] text = behind is_blank (drop (length old) text)
with_word [] (b ∷ new) text = (b ∷ new) ++ 32 ∷ text
with_word (a ∷ old) (b ∷ new) text = (b ∷ new) ++ drop (length (a ∷ old)) text

-- the rest of a heading line with another keyword, or with none
abbrev pub with_keyword : Keywords → List ℕ → List ℕ → List ℕ
with_keyword states word rest =
    front is_blank rest ++ with_word (keyword_in states rest) word (behind is_blank rest)
