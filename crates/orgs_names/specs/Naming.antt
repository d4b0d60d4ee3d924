-- The headings that a name means, among those of some files.
use Rattle.std.specs.Prelude.{◌≡◌, ℕ, suc, ◌≤◌, ◌++◌, List, [], ◌∷◌, filter, length, map}
use Rattle.std.specs.List.{range_with_len}
use Rattle.org_outline.specs.Source.{Source}
use Rattle.org_outline.specs.Tree.{node_count, tree}
use Rattle.orgs_names.specs.Called.{Called}
use Rattle.orgs_names.specs.Ways.{fits}
use Rattle.orgs_names.specs.declared.choosing.Choice.{Choice}
use Rattle.orgs_names.specs.declared.choosing.Choice.TheVariants as choice
use Rattle.orgs_names.specs.declared.fitting.Way.{Way}
use Rattle.orgs_names.specs.declared.fitting.Way.TheVariants.{Path, Title, Part, End}
use Rattle.orgs_names.specs.declared.naming.Place.{Place}

-- a heading of the file with a number
abbrev pub place_in : ℕ → ℕ → Place
place_in file i = record { file = file; heading = i }

-- the headings of a file that a name fits in a way, in the order of the text
abbrev pub fitting_in : Way → Called → ℕ → Source → List Place
fitting_in way name file source =
    map (place_in file)
    (filter (fits way name source) (range_with_len 0 (node_count (tree source.text))))

-- those of all files, in their order, where `file` is the number of the first
abbrev pub fitting_from : Way → Called → ℕ → List Source → List Place
fitting_from way name file [] = []
fitting_from way name file (source ∷ sources) =
    fitting_in way name file source ++ fitting_from way name (suc file) sources

abbrev pub fitting : Way → Called → List Source → List Place
fitting way name files = fitting_from way name 0 files

-- the first list, or the second where the first has nothing
abbrev pub or_else : List Place → List Place → List Place
or_else [] others = others
or_else (place ∷ places) others = place ∷ places

-- the headings that a name means: those that it fits in the first way in which it fits any
abbrev pub meant : Called → List Source → List Place
meant name files =
    or_else
    (or_else (or_else (fitting Path name files) (fitting Title name files))
    (fitting Part name files))
    (fitting End name files)

-- what a name denotes that means these headings: one only where it means no other; where it means
-- several, all of them are told
abbrev pub Chooses : List Place → Choice → Type 0
Chooses places choice.None = places ≡ []
Chooses places (choice.One place) = places ≡ place ∷ []
Chooses places (choice.Several all) = (all.items ≡ places) × (2 ≤ length places)
