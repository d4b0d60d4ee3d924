-- The changed ranges of a text: they rise, none is empty, and bytes stand between each two.
use Rattle.std.specs.Prelude.{◌⊎◌, ℕ, ◌+◌, ◌<◌, ◌≤◌, ◌==◌, nat_lt, nat_le, if◌then◌else◌, min, max, List, [], ◌∷◌, length}
use Rattle.org_splice.specs.declared.Span.{Span}

-- ranges that lie apart, from this place on and up to this size
abbrev pub LieApart : ℕ → ℕ → List Span → Type 0
LieApart place size [] = Unit {0}
LieApart place size (range ∷ ranges) =
    (place ≤ range.start)
    × (range.start < range.end)
    × (range.end ≤ size)
    × LieApart (range.end + 1) size ranges

-- the changed ranges that are kept of a text of this size
pub record AreChanged (size : ℕ) (ranges : List Span) : Type 0 where
  pub apart : LieApart 0 size ranges
  pub few : length ranges ≤ 1_000

-- a position in none of the changed ranges
abbrev pub IsUnchanged : List Span → ℕ → Type 0
IsUnchanged [] i = Unit {0}
IsUnchanged (range ∷ ranges) i = ((i < range.start) ⊎ (range.end ≤ i)) × IsUnchanged ranges i

-- the ranges, cut at the end of a text of this size; those that begin there or after are left out
abbrev pub cut_at : ℕ → List Span → List Span
cut_at size [] = []
cut_at size (range ∷ ranges) =
    if nat_lt range.start size
    then record { start = range.start; end = min range.end size } ∷ cut_at size ranges
    else cut_at size ranges

-- the ranges with one more, which becomes one with those that it touches or overlaps
abbrev pub joined : Span → List Span → List Span
joined own [] = own ∷ []
joined own (range ∷ ranges) =
    if nat_lt range.end own.start then range ∷ joined own ranges
    else if nat_lt own.end range.start then own ∷ range ∷ ranges
    else joined (record { start = min own.start range.start; end = max own.end range.end }) ranges

-- the last two become one, with what lies between
abbrev pub last_two_joined : List Span → List Span
last_two_joined [] = []
last_two_joined (last ∷ []) = last ∷ []
last_two_joined (range ∷ last ∷ []) = record { start = range.start; end = last.end } ∷ []
last_two_joined (range ∷ next ∷ after ∷ ranges) = range ∷ last_two_joined (next ∷ after ∷ ranges)

-- at most a thousand of them
abbrev pub a_thousand_of : List Span → List Span
a_thousand_of ranges = if nat_le (length ranges) 1_000 then ranges else last_two_joined ranges

-- the range that a splice changes of a text that has this size afterwards: that of its bytes where
-- the text keeps its length, and else all from `at` on
abbrev pub own_range : ℕ → ℕ → ℕ → ℕ → Span
own_range at removed added size =
    record { start = at; end = if removed == added then at + added else size }

-- the ranges with one more, if it isn't empty
abbrev pub with_range : Span → List Span → List Span
with_range own ranges = if own.start == own.end then ranges else a_thousand_of (joined own ranges)

-- the changed ranges after a splice
abbrev pub changed_by : ℕ → ℕ → ℕ → ℕ → List Span → List Span
changed_by at removed added size ranges =
    with_range (own_range at removed added size) (cut_at size ranges)
