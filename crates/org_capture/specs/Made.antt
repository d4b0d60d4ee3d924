-- What a capture makes beside its entry, and date headings made one at a time (Org manual,
-- "Template elements": target).
use Rattle.std.specs.Prelude.{ℕ, ◌+◌, List, [], ◌∷◌, map, Option, None, Some, Result, Ok, Err}
use Rattle.std.specs.List.{sum_by}
use Rattle.std.specs.Option.{option_map_or}
use Rattle.std.specs.declared.cmp.Ordering.TheVariants.{Equal, Greater}
use Rattle.org_outline.specs.declared.moves.Place.{Place}
use Rattle.org_outline.specs.declared.paths.PathFault.{PathFault}
use Rattle.org_outline.specs.States.{Keywords}
use Rattle.org_outline.specs.Tree.{Node, Document}
use Rattle.org_outline.specs.Moves.{insert, level_below, heading_alone}
use Rattle.org_outline.specs.Numbers.{number_last, weigh_node}
use Rattle.org_outline.specs.Paths.{find_headed}
use Rattle.org_stamp.specs.Calendar.{CivilDay, Moment}
use Rattle.org_capture.specs.declared.dates.DateKind.{DateKind}
use Rattle.org_capture.specs.declared.dates.DateKind.TheVariants.{Year, Month, Day}
use Rattle.org_capture.specs.declared.target.Target.{Target}
use Rattle.org_capture.specs.declared.target.Target.TheVariants.{Top, Head, Path, Date}
use Rattle.org_capture.specs.Capture.{rest_of, date_base}
use Rattle.org_capture.specs.Dates.{date_title, key_on, first_dated, put_dated, found_or_made}

-- ---- headings that are missing, each by what stands after its stars

abbrev pub date_rest : CivilDay → DateKind → List ℕ
date_rest day kind = 32 ∷ date_title kind day

-- of a day's headings of these kinds, each among the children of the last, the first without one,
-- and all below it
abbrev pub missing_dates : Keywords → CivilDay → Document → List DateKind → Option ℕ → List (List ℕ)
missing_dates states day d [] up = []
missing_dates states day d (kind ∷ kinds) up =
    option_map_or (λ i. missing_dates states day d kinds (Some i))
    (first_dated states d up kind (key_on kind day) Equal)
    (map (date_rest day) (kind ∷ kinds))

abbrev pub missing_below : Keywords → CivilDay → Document → Result (Option ℕ) PathFault
    → List (List ℕ)
missing_below states day d (Ok base) = missing_dates states day d (Year ∷ Month ∷ Day ∷ []) base
missing_below states day d (Err fault) = []

abbrev pub missing_title : List ℕ → Result (Option ℕ) PathFault → List (List ℕ)
missing_title title (Ok None) = rest_of title ∷ []
missing_title title (Ok (Some i)) = []
missing_title title (Err fault) = []

-- of the headings of a target those that a document hasn't
abbrev pub missing : Keywords → Target → Moment → Document → List (List ℕ)
missing states Top moment d = []
missing states (Head step) moment d = missing_title step.title (find_headed states d step)
missing states (Path path) moment d = []
missing states (Date path) moment d =
    missing_below states moment.day d (date_base states d path)

-- what a capture adds to a sum over all nodes: its entry's nodes, and each heading that was
-- missing, without a section
abbrev pub added : (List ℕ → List (List ℕ) → ℕ) → Node → List (List ℕ) → ℕ
added w entry rests = weigh_node w entry + sum_by (λ rest. w rest []) rests

-- ---- one at a time

-- the number of a heading that was put before another one, else last
abbrev pub number_put : Option ℕ → Option ℕ → Document → ℕ
number_put (Some later) up d = later
number_put None up d = number_last up d

-- the entry below the day's headings of these kinds, each looked for among the children of the
-- last, and made alone where it is missing
abbrev pub dated_one_by_one : Keywords → Place → CivilDay → Node → Document → List DateKind
    → Option ℕ → Document
dated_one_by_one states place day entry d [] up = insert up place entry d
dated_one_by_one states place day entry d (kind ∷ kinds) up =
    let later : Option ℕ = first_dated states d up kind (key_on kind day) Greater in
    let made : Document = put_dated later up
    (heading_alone (level_below up d) (date_rest day kind)) d in
    found_or_made (first_dated states d up kind (key_on kind day) Equal)
    (λ i. dated_one_by_one states place day entry d kinds (Some i))
    (dated_one_by_one states place day entry made kinds (Some (number_put later up d)))
