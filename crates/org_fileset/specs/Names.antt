-- The names of a set's files.
use Rattle.std.specs.Prelude.{◌↔◌, ℕ, ◌<◌, ◌≤◌, nat_lt, List, [], ◌∷◌, length, Option, Some, None, if◌then◌else◌}
use Rattle.std.specs.List.{Contains}
use Rattle.std.specs.List.Sorted.{IsStrictlySortedBy}
use Rattle.std.specs.Ordering.{nat_cmp}
use Rattle.std.specs.Cmp.Lexicographic.{slice_cmp}
use Rattle.org_disk.specs.Names.{archive_name}
use Rattle.org_journal.specs.declared.record.Version.TheVariants.{Two}
use Rattle.org_journal.specs.Record.{greatest_length}
use Rattle.org_journal.specs.Recovered.{Image}

-- how many names may be given
abbrev pub most_names : ℕ
most_names = 256

-- the most bytes of a file: what an entry may have
abbrev pub limit : ℕ
limit = greatest_length Two

-- these names and those of their archive files
abbrev pub with_archives : List (List ℕ) → List (List ℕ)
with_archives [] = []
with_archives (name ∷ names) = name ∷ archive_name name ∷ with_archives names

-- the same names, in byte order and each once
pub record AreSorted (given names : List (List ℕ)) : Type 0 where
  pub ordered : IsStrictlySortedBy (slice_cmp nat_cmp) names
  pub members : (name : List ℕ) → Contains names name ↔ Contains given name

-- no more different names than may be given, and more
abbrev pub AreFew : List (List ℕ) → Type 0
AreFew given = (names : List (List ℕ)) × AreSorted given names × (length names ≤ most_names)

abbrev pub AreTooMany : List (List ℕ) → Type 0
AreTooMany given = (names : List (List ℕ)) × AreSorted given names × (most_names < length names)

-- the first of these names whose file is past the limit
abbrev pub first_large : Image → List (List ℕ) → Option (List ℕ)
first_large files [] = None
first_large files (name ∷ names) =
    if nat_lt limit (length (files name)) then Some name else first_large files names
