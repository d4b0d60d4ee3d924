-- How often a node is there, by its heading line without the stars and by the lines of its section
-- (Org Syntax, "Headings", "Sections").
use Rattle.std.specs.Prelude.{ℕ, ◌==◌, ◌&&◌, if◌then◌else◌, List, [], ◌∷◌, Option, None, Some}
use Rattle.std.specs.List.{sum_by}
use Rattle.std.specs.Str.{bytes_eq}
use Rattle.std.specs.Cmp.Lexicographic.{pointwise}
use Rattle.org_outline.specs.Tree.{Document, tree}
use Rattle.org_outline.specs.Numbers.{weigh}
use Rattle.org_move.specs.Location.{Destination}

-- 1 for a node that has this rest of the heading line and these section lines
abbrev pub one_of : List ℕ → List (List ℕ) → List ℕ → List (List ℕ) → ℕ
one_of rest section r s = if bytes_eq r rest && pointwise bytes_eq s section then 1 else 0

-- how many nodes of a document have them
abbrev pub count_in : List ℕ → List (List ℕ) → Document → ℕ
count_in rest section d = weigh (λ r s. one_of rest section r s) d.forest

-- what the heading counts that is made for an archived entry, where `up` is the one that is there
abbrev pub made_count : List ℕ → List (List ℕ) → Destination → Option ℕ → ℕ
made_count rest section to (Some up) = 0
made_count rest section to None =
    if to.level == 0 then 0 else one_of rest section (32 ∷ to.title) []

-- how many nodes of all files have them, where these are the files' texts
abbrev pub count_over : List ℕ → List (List ℕ) → List (List ℕ) → ℕ
count_over rest section texts = sum_by (λ t. count_in rest section (tree t)) texts
