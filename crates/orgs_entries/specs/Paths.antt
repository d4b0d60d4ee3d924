-- The headings to which a path leads (Org manual, "Refile and Copy": outline paths).
use Rattle.std.specs.Prelude.{ℕ, Bool, true, false, ◌&&◌, ◌==◌, List, [], ◌∷◌, Option, Some, None}
use Rattle.std.specs.Str.{bytes_eq}
use Rattle.org_outline.specs.declared.steps.Step.{Step}
use Rattle.org_outline.specs.States.{Keywords}
use Rattle.org_outline.specs.Tree.{Document, parent_of}
use Rattle.orgs_entries.specs.Twins.{number_of, title_at}

-- whether a number is the one that is asked for, if one is
abbrev pub is_asked : Option ℕ → ℕ → Bool
is_asked None n = true
is_asked (Some m) n = n == m

-- whether a heading has the title of a step, and its number where it has one
abbrev pub has_step : Keywords → Document → Step → ℕ → Bool
has_step states d step i =
    bytes_eq (title_at states d i) step.title && is_asked step.number (number_of states d i)

-- whether steps, of which the last comes first, lead up from a heading to above the top level: the
-- last step is the heading's, the one before it that of its parent, and so on
abbrev pub leads : Keywords → Document → List Step → Option ℕ → Bool
leads states d [] None = true
leads states d [] (Some i) = false
leads states d (step ∷ before) None = false
leads states d (step ∷ before) (Some i) =
    has_step states d step i && leads states d before (parent_of d i)
