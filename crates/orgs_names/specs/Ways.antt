-- The ways in which a name fits headings, the strictest first.
use Rattle.std.specs.Prelude.{ℕ, Bool, true, false, ◌&&◌, not, nat_eq, nat_lt, List, [], ◌∷◌, length, reverse, Option, Some, None}
use Rattle.std.specs.List.{ends_with, list_all, starts_with}
use Rattle.std.specs.Option.{is_none}
use Rattle.std.specs.Str.{bytes_eq}
use Rattle.org_outline.specs.Source.{Source}
use Rattle.org_outline.specs.declared.steps.Step.{Step}
use Rattle.org_outline.specs.States.{Keywords}
use Rattle.org_outline.specs.Tree.{Document, parent_of, tree}
use Rattle.orgs_entries.specs.Paths.{leads}
use Rattle.orgs_entries.specs.Twins.{title_at}
use Rattle.orgs_folding.specs.Folding.{contains, folded}
use Rattle.orgs_names.specs.Called.{Called, folded_titles}
use Rattle.orgs_names.specs.declared.fitting.Way.{Way}
use Rattle.orgs_names.specs.declared.fitting.Way.TheVariants.{Path, Title, Part, End}

-- the folded title of a heading
abbrev pub folded_at : Keywords → Document → ℕ → List ℕ
folded_at states d i = folded (title_at states d i)

-- whether titles, of which the last comes first, are those of a heading and of the ones above it; of
-- the first title an end is enough
abbrev pub ends_above : Keywords → Document → List (List ℕ) → Option ℕ → Bool
ends_above states d [] up = true
ends_above states d (title ∷ before) None = false
ends_above states d (title ∷ []) (Some i) = ends_with nat_eq (folded_at states d i) title
ends_above states d (title ∷ (other ∷ before)) (Some i) =
    bytes_eq (folded_at states d i) title
    && ends_above states d (other ∷ before) (parent_of d i)

-- whether two titles or more, of which the last comes first, end the path of a heading: of the last
-- title a beginning is enough, and of the first an end
abbrev pub ends_path : Keywords → Document → List (List ℕ) → ℕ → Bool
ends_path states d [] i = false
ends_path states d (title ∷ []) i = false
ends_path states d (title ∷ (other ∷ before)) i =
    nat_lt 0 (length title) && starts_with nat_eq (folded_at states d i) title
    && ends_above states d (other ∷ before) (parent_of d i)

-- whether no step has a number
abbrev pub are_titles : List Step → Bool
are_titles path = list_all (λ step. is_none step.number) path

-- whether a name fits a heading in a way: it is a path that leads there; it is the title; the title
-- has it in it, whatever the case; or it is the end of the heading's path, whatever the case
abbrev pub fits : Way → Called → Source → ℕ → Bool
fits Path name file i = leads file.states (tree file.text) (reverse name.path) (Some i)
fits Title name file i = bytes_eq (title_at file.states (tree file.text) i) name.text
fits Part name file i = contains (folded_at file.states (tree file.text) i) (folded name.text)
fits End name file i =
    are_titles name.path
    && ends_path file.states (tree file.text) (reverse (folded_titles name.path)) i
