-- How long the files of a set are.
use Rattle.std.specs.Prelude.{◌≡◌, ℕ, List, [], ◌∷◌, length, if◌then◌else◌}
use Rattle.std.specs.Str.{bytes_eq}
use Rattle.org_journal.specs.declared.record.Entry.{Entry}
use Rattle.org_journal.specs.Recovered.{Image}

-- the length that stands beside a name, and 0 where none does
abbrev pub length_of : List (List ℕ) → List ℕ → List ℕ → ℕ
length_of [] lengths name = 0
length_of (other ∷ names) [] name = 0
length_of (other ∷ names) (first ∷ lengths) name =
    if bytes_eq other name then first else length_of names lengths name

-- the lengths with another one beside this name
abbrev pub with_length : List (List ℕ) → List ℕ → List ℕ → ℕ → List ℕ
with_length names [] name size = []
with_length [] (first ∷ lengths) name size = first ∷ lengths
with_length (other ∷ names) (first ∷ lengths) name size =
    (if bytes_eq other name then size else first) ∷ with_length names lengths name size

-- the lengths after each of the entries was applied to its file
abbrev pub with_lengths : List (List ℕ) → List ℕ → List Entry → List ℕ
with_lengths names lengths [] = lengths
with_lengths names lengths (entry ∷ entries) =
    with_lengths names (with_length names lengths entry.name entry.length) entries

-- the lengths are those of the files of these names
abbrev pub AreLengths : List (List ℕ) → List ℕ → Image → Type 0
AreLengths [] [] files = Unit {0}
AreLengths (name ∷ names) (size ∷ lengths) files =
    (size ≡ length (files name)) × AreLengths names lengths files
AreLengths [] (size ∷ lengths) files = ⊥
AreLengths (name ∷ names) [] files = ⊥
