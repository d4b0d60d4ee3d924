-- Twins: headings that have one title below one parent, or at top level. A path leads to all of
-- them, so a list gives each its number.
use Rattle.std.specs.Prelude.{ℕ, ◌+◌, Bool, ◌&&◌, nat_eq, nat_lt, List, map, Option, count_by}
use Rattle.std.specs.List.{range_with_len}
use Rattle.std.specs.Option.{option_eq}
use Rattle.std.specs.Str.{bytes_eq}
use Rattle.org_outline.specs.Paths.{title_of}
use Rattle.org_outline.specs.States.{Keywords}
use Rattle.org_outline.specs.Tree.{Document, node_at, node_count, parent_of}

-- the parents of the first headings, and of all
abbrev pub parents_below : Document → ℕ → List (Option ℕ)
parents_below d n = map (parent_of d) (range_with_len 0 n)

abbrev pub parents_of : Document → List (Option ℕ)
parents_of d = parents_below d (node_count d)

-- the title of the heading with a number
abbrev pub title_at : Keywords → Document → ℕ → List ℕ
title_at states d i = title_of states (node_at d i).node.rest

-- a parent, or none at top level, and a title
abbrev pub Family : Type 0
Family = Option ℕ × List ℕ

abbrev pub is_same_family : Family → Family → Bool
is_same_family a b = option_eq nat_eq a.0 b.0 && bytes_eq a.1 b.1

-- the family of a heading
abbrev pub family_of : Keywords → Document → ℕ → Family
family_of states d i = (parent_of d i, title_at states d i)

-- those of the first headings
abbrev pub families_below : Keywords → Document → ℕ → List Family
families_below states d n = map (family_of states d) (range_with_len 0 n)

-- how many of the first n headings are of a family
abbrev pub count_below : Keywords → Document → ℕ → Family → ℕ
count_below states d n family = count_by (is_same_family family) (families_below states d n)

-- the number of a heading among its twins: one more than there are before it
abbrev pub number_of : Keywords → Document → ℕ → ℕ
number_of states d i = count_below states d i (family_of states d i) + 1

-- whether a heading has a twin: its family is counted with it
abbrev pub has_twins : Keywords → Document → ℕ → Bool
has_twins states d i = nat_lt 1 (count_below states d (node_count d) (family_of states d i))

-- those of all headings
abbrev pub numbers_of : Keywords → Document → List ℕ
numbers_of states d = map (number_of states d) (range_with_len 0 (node_count d))

abbrev pub twins_of : Keywords → Document → List Bool
twins_of states d = map (has_twins states d) (range_with_len 0 (node_count d))
