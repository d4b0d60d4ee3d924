-- What an archived entry has of the headings above it (Org manual, "Moving a tree to an archive
-- file", "Property Inheritance", "Tag Inheritance").
use Rattle.std.specs.Prelude.{ℕ, ◌==◌, Bool, not, if◌then◌else◌, Option, None, Some, List, [], ◌∷◌, ◌++◌, map, filter, length}
use Rattle.std.specs.List.{list_any, flat_map, slice_split}
use Rattle.std.specs.Option.{option_and_then, option_or}
use Rattle.std.specs.Str.{bytes_eq}
use Rattle.org_outline.specs.States.{Keywords}
use Rattle.org_outline.specs.Tree.{Document, node_at}
use Rattle.org_outline.specs.Numbers.{ancestors_of}
use Rattle.org_outline.specs.Parts.{parts_of}
use Rattle.org_outline.specs.Paths.{title_of}
use Rattle.org_meta.specs.Sections.{property, split}

-- ---- properties

-- nothing where it is empty
abbrev pub nonempty : List ℕ → Option (List ℕ)
nonempty [] = None
nonempty (b ∷ bs) = Some (b ∷ bs)

-- the value of a heading's own property, where it isn't empty
abbrev pub own_value : List ℕ → Document → ℕ → Option (List ℕ)
own_value name d i = option_and_then nonempty (property name (split (node_at d i).node.section))

-- the value of the last of these headings that has one
abbrev pub last_value : List ℕ → Document → List ℕ → Option (List ℕ)
last_value name d [] = None
last_value name d (i ∷ is) = option_or (last_value name d is) (own_value name d i)

-- the nearest nonempty value of a property: the heading's own, or that of an ancestor, the
-- innermost first
abbrev pub nearest : List ℕ → Document → ℕ → Option (List ℕ)
nearest name d i = last_value name d (ancestors_of d i ++ i ∷ [])

-- ---- titles and tags

-- the titles of the ancestors, outermost first
abbrev pub titles_above : Keywords → Document → ℕ → List (List ℕ)
titles_above states d i = map (λ up. title_of states (node_at d up).node.rest) (ancestors_of d i)

-- their tags, each heading's as `:a:b:`
abbrev pub tags_above : Keywords → Document → ℕ → List (List ℕ)
tags_above states d i =
    map (λ up. (parts_of states (node_at d up).node.rest).tags) (ancestors_of d i)

abbrev pub is_colon : ℕ → Bool
is_colon b = b == 58

abbrev pub nonempty_only : List (List ℕ) → List (List ℕ)
nonempty_only tags = filter (λ tag. not (length tag == 0)) tags

-- the tags of `:a:b:`: what stands between the colons
abbrev pub tag_list : List ℕ → List (List ℕ)
tag_list tags = nonempty_only (slice_split is_colon tags)

-- each text only where it comes first, where those of `seen` came before
abbrev pub first_ones : List (List ℕ) → List (List ℕ) → List (List ℕ)
first_ones seen [] = []
first_ones seen (x ∷ xs) =
    if list_any (λ y. bytes_eq y x) seen then first_ones seen xs
    else x ∷ first_ones (seen ++ x ∷ []) xs

-- those that are there, with those of others that are new
abbrev pub with_first : List (List ℕ) → List (List ℕ) → List (List ℕ)
with_first seen xs = seen ++ first_ones seen xs

-- the tags that a heading inherits: those of its ancestors, outermost first, each once
abbrev pub inherited_tags : Keywords → Document → ℕ → List (List ℕ)
inherited_tags states d i = first_ones [] (flat_map tag_list (tags_above states d i))
