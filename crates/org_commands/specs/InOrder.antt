-- Texts of files in the order of their names.
use Rattle.std.specs.Prelude.{◌≡◌, ◌⊎◌, true, ℕ, Bool, List, [], ◌∷◌, Option, Some, None, if◌then◌else◌}
use Rattle.std.specs.List.{AllByRecursion, list_any}
use Rattle.std.specs.Str.{bytes_eq}
use Rattle.org_journal.specs.Recovered.{Image, RecoversTo}

-- the texts of the files of these names, in their order
abbrev pub texts_of : Image → List (List ℕ) → List (List ℕ)
texts_of files [] = []
texts_of files (name ∷ names) = files name ∷ texts_of files names

-- whether it is one of these names
abbrev pub is_name : List (List ℕ) → List ℕ → Bool
is_name names name = list_any (λ one. bytes_eq one name) names

-- each of the others is one of these names
abbrev pub AreNames : List (List ℕ) → List (List ℕ) → Type 0
AreNames names others = AllByRecursion (λ name. is_name names name ≡ true) others

-- the text of the file of a name; there is none where it is none of these names
abbrev pub text_at : List (List ℕ) → List (List ℕ) → List ℕ → Option (List ℕ)
text_at [] texts name = None
text_at (one ∷ names) [] name = None
text_at (one ∷ names) (text ∷ texts) name =
    if bytes_eq one name then Some text else text_at names texts name

-- the texts with a new one for this name
abbrev pub with_text : List (List ℕ) → List (List ℕ) → List ℕ → List ℕ → List (List ℕ)
with_text [] texts name new = []
with_text (one ∷ names) [] name new = []
with_text (one ∷ names) (text ∷ texts) name new =
    (if bytes_eq one name then new else text) ∷ with_text names texts name new

-- the texts with new ones for names, one after another
abbrev pub with_all : List (List ℕ) → List (List ℕ) → List (List ℕ × List ℕ) → List (List ℕ)
with_all names texts [] = texts
with_all names texts (change ∷ changes) =
    with_all names (with_text names texts change.0 change.1) changes

-- the files with these texts for these names; every other file is as it is
abbrev pub with_texts : List (List ℕ) → List (List ℕ) → Image → Image
with_texts [] texts files name = files name
with_texts (one ∷ names) [] files name = files name
with_texts (one ∷ names) (text ∷ texts) files name =
    if bytes_eq one name then text else with_texts names texts files name

-- the image recovers to these texts of the files of these names, and for these other files
abbrev pub HoldsTexts : List (List ℕ) → Image → List (List ℕ) → Image → Type 0
HoldsTexts names others texts image = RecoversTo (with_texts names texts others) image

-- the image recovers to the files as they are, or with these texts
abbrev pub HoldsEither : List (List ℕ) → Image → List (List ℕ) → Image → Type 0
HoldsEither names files texts image =
    HoldsTexts names files (texts_of files names) image ⊎ HoldsTexts names files texts image
