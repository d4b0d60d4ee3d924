-- An entry put below its target (Org manual, "Template elements": target).
use Rattle.std.specs.Prelude.{ℕ, Bool, ◌&&◌, not, ◌==◌, List, [], ◌∷◌, length, if◌then◌else◌, Option, None, Some, Result, Ok, Err}
use Rattle.std.specs.List.{list_any}
use Rattle.std.specs.Str.{bytes_eq}
use Rattle.org_fault.specs.declared.refusal.Refusal.{Refusal}
use Rattle.org_fault.specs.declared.refusal.Refusal.TheVariants.{NotFound}
use Rattle.org_outline.specs.declared.moves.Place.{Place}
use Rattle.org_outline.specs.declared.paths.PathFault.{PathFault}
use Rattle.org_outline.specs.declared.steps.Step.{Step}
use Rattle.org_outline.specs.States.{Keywords}
use Rattle.org_outline.specs.Tree.{Node, Document, node_count}
use Rattle.org_outline.specs.Moves.{insert, append_heading}
use Rattle.org_outline.specs.Parts.{Parts, parts_of}
use Rattle.org_outline.specs.Paths.{find_path, find_headed, refusal_of}
use Rattle.org_stamp.specs.Calendar.{Moment}
use Rattle.org_capture.specs.declared.target.Target.{Target}
use Rattle.org_capture.specs.declared.target.Target.TheVariants.{Top, Head, Path, Date}
use Rattle.org_capture.specs.declared.dates.DateKind.TheVariants.{Year, Month, Day}
use Rattle.org_capture.specs.Dates.{dated}

-- what stands after the star of a heading that is made with a title
abbrev pub rest_of : List ℕ → List ℕ
rest_of title = 32 ∷ title

abbrev pub is_only_title : List ℕ → Parts → Bool
is_only_title title parts =
    bytes_eq parts.title title
    && length parts.keyword == 0
    && length parts.priority == 0
    && length parts.tags == 0

-- a heading made with this title has it, and no keyword, no priority and no tags
abbrev pub can_be_title : Keywords → List ℕ → Bool
can_be_title states title =
    is_only_title title (parts_of states (rest_of title)) && not (list_any (λ b. b == 10) title)

-- the entry below a heading, if that was found
abbrev pub below_found : Place → Node → Document → Result ℕ PathFault → Result Document Refusal
below_found place entry d (Ok i) = Ok (insert (Some i) place entry d)
below_found place entry d (Err fault) = Err (refusal_of fault)

-- the entry below a heading of level 1 that is made at the end
abbrev pub below_made : Place → Node → List ℕ → Document → Document
below_made place entry title d =
    insert (Some (node_count d)) place entry (append_heading 1 (rest_of title) d)

-- the entry below the heading that a step means; where a step without a number has none, it is made
-- with the title
abbrev pub below_head : Keywords → List ℕ → Place → Node → Document → Result (Option ℕ) PathFault
    → Result Document Refusal
below_head states title place entry d (Ok (Some i)) = Ok (insert (Some i) place entry d)
below_head states title place entry d (Ok None) =
    if can_be_title states title then Ok (below_made place entry title d) else Err NotFound
below_head states title place entry d (Err fault) = Err (refusal_of fault)

-- where a date tree stands: below the heading at a path, and at top level where the path is empty
abbrev pub some_node : Result ℕ PathFault → Result (Option ℕ) PathFault
some_node (Ok i) = Ok (Some i)
some_node (Err fault) = Err fault

abbrev pub date_base : Keywords → Document → List Step → Result (Option ℕ) PathFault
date_base states d [] = Ok None
date_base states d (step ∷ path) = some_node (find_path states d (step ∷ path))

-- the entry below the heading of the moment's day
abbrev pub below_day : Keywords → Place → Moment → Node → Document
    → Result (Option ℕ) PathFault → Result Document Refusal
below_day states place moment entry d (Ok base) =
    Ok (dated states place moment.day entry d (Year ∷ Month ∷ Day ∷ []) base)
below_day states place moment entry d (Err fault) = Err (refusal_of fault)

-- the document with an entry put below its target
abbrev pub captured : Keywords → Target → Place → Moment → Node → Document
    → Result Document Refusal
captured states Top place moment entry d = Ok (insert None place entry d)
captured states (Head step) place moment entry d =
    below_head states step.title place entry d (find_headed states d step)
captured states (Path path) place moment entry d =
    below_found place entry d (find_path states d path)
captured states (Date path) place moment entry d =
    below_day states place moment entry d (date_base states d path)
