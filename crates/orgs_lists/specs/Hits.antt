-- Which headings have a text.
use Rattle.std.specs.Prelude.{ℕ, Bool, ◌||◌, List}
use Rattle.std.specs.List.{list_any}
use Rattle.org_splice.specs.Blanks.{trimmed}
use Rattle.org_move.specs.Inherited.{tag_list}
use Rattle.org_outline.specs.Source.{Source}
use Rattle.org_outline.specs.Tree.{node_at, tree}
use Rattle.orgs_folding.specs.Folding.{contains, folded}
use Rattle.orgs_lists.specs.Filters.{parts_at}

-- whether a text has a folded one in it, whatever the case
abbrev pub has_text : List ℕ → List ℕ → Bool
has_text part text = contains (folded text) part

-- whether a line has it between the blanks at its ends
abbrev pub has_in_line : List ℕ → List ℕ → Bool
has_in_line part line = has_text part (trimmed line)

-- whether a heading has it: in its title, in a tag, or in a line below it
abbrev pub is_hit : List ℕ → Source → ℕ → Bool
is_hit part source i =
    let parts = parts_at source.states (tree source.text) i in
    has_text part parts.title || list_any (has_text part) (tag_list parts.tags)
    || list_any (has_in_line part) (node_at (tree source.text) i).node.section
