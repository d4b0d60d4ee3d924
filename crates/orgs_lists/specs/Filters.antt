-- Which headings a filter wants.
use Rattle.std.specs.Prelude.{ℕ, Bool, true, false, not, ◌&&◌, ◌||◌, ◌==◌, List, [], ◌∷◌, ◌++◌, filter, length, Option, Some, None}
use Rattle.std.specs.List.{list_all, list_any, range_with_len}
use Rattle.std.specs.Str.{bytes_eq}
use Rattle.org_meta.specs.Sections.{property, split}
use Rattle.org_move.specs.Inherited.{tag_list}
use Rattle.org_outline.specs.Numbers.{ancestors_of}
use Rattle.org_outline.specs.Parts.{Parts, parts_of}
use Rattle.org_outline.specs.Source.{Source}
use Rattle.org_outline.specs.States.{Keywords, has_word}
use Rattle.org_outline.specs.Tree.{Document, node_at, node_count, tree}
use Rattle.orgs_lists.specs.declared.file.File.{File}
use Rattle.orgs_lists.specs.declared.filter.Filter.{Filter}
use Rattle.orgs_lists.specs.declared.filter.Property.{Property}

-- the parts of a heading's line
abbrev pub parts_at : Keywords → Document → ℕ → Parts
parts_at states d i = parts_of states (node_at d i).node.rest

-- whether a word is one of these, where there are some
abbrev pub is_one_of : List (List ℕ) → List ℕ → Bool
is_one_of words w = length words == 0 || has_word words w

-- ---- the state

-- whether a state is of a kind that is asked for, if a kind is
abbrev pub is_of_kind : Filter → Keywords → List ℕ → Bool
is_of_kind asked states w =
    (not asked.active && not asked.done)
    || (asked.active && has_word states.active w || asked.done && has_word states.done w)

abbrev pub has_state : Filter → Keywords → List ℕ → Bool
has_state asked states w = is_of_kind asked states w && is_one_of asked.states.items w

-- ---- the priority

-- the letter or digit of `[#A]`
abbrev pub letter_of : List ℕ → List ℕ
letter_of (a ∷ (b ∷ (letter ∷ (c ∷ [])))) = letter ∷ []
letter_of priority = []

-- ---- tags

-- whether `:a:b:` has a tag
abbrev pub has_tag_in : List ℕ → List ℕ → Bool
has_tag_in tags tag = has_word (tag_list tags) tag

-- whether a heading has a tag itself
abbrev pub has_own_tag : Source → List ℕ → ℕ → Bool
has_own_tag source tag i = has_tag_in (parts_at source.states (tree source.text) i).tags tag

-- whether a heading has a tag, or inherits it from its file or from a heading above it
abbrev pub has_tag : File → ℕ → List ℕ → Bool
has_tag file i tag =
    has_word file.tags.now tag
    || list_any (has_own_tag file.entries.now tag) (ancestors_of (tree file.entries.now.text) i ++ i ∷ [])

-- ---- properties

-- whether a value is the one that is asked for, if one is; none where there is no such property
abbrev pub is_value : Option (List ℕ) → Option (List ℕ) → Bool
is_value asked None = false
is_value None (Some value) = true
is_value (Some asked) (Some value) = bytes_eq value asked

-- whether a heading has a property
abbrev pub has_property : Source → ℕ → Property → Bool
has_property source i asked =
    is_value asked.value
    (property asked.name (split (node_at (tree source.text) i).node.section))

-- ---- all of it

-- whether a heading has a state and a priority that are asked for
abbrev pub has_head : Filter → File → ℕ → Bool
has_head asked file i =
    let parts = parts_at file.entries.now.states (tree file.entries.now.text) i in
    has_state asked file.entries.now.states parts.keyword
    && is_one_of asked.priorities.items (letter_of parts.priority)

-- whether it has the tags that are asked for, and none of the others
abbrev pub has_tags : Filter → File → ℕ → Bool
has_tags asked file i =
    list_all (has_tag file i) asked.tags.items
    && not (list_any (has_tag file i) asked.without.items)

-- whether a heading is wanted
abbrev pub is_wanted : Filter → File → ℕ → Bool
is_wanted asked file i =
    has_head asked file i && has_tags asked file i
    && list_all (has_property file.entries.now i) asked.properties.items

-- the headings of a file that are wanted: each once, in the order of the text
abbrev pub wanted : Filter → File → List ℕ
wanted asked file =
    filter (is_wanted asked file) (range_with_len 0 (node_count (tree file.entries.now.text)))
