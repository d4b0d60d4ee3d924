-- An archived subtree: the properties that its root gets, and where it is put (Org manual, "Moving
-- a tree to an archive file").
use Rattle.std.specs.Prelude.{ℕ, ◌==◌, nat_eq, if◌then◌else◌, Option, None, Some, Result, Ok, Err, List, [], ◌∷◌, ◌++◌, codes, filter, length, take, ◌-◌, ◌+◌}
use Rattle.std.specs.List.{ends_with, join_with_byte}
use Rattle.std.specs.Option.{unwrap_or}
use Rattle.org_disk.specs.Names.{last_part}
use Rattle.org_fault.specs.declared.refusal.Refusal.{Refusal}
use Rattle.org_fault.specs.declared.refusal.Refusal.TheVariants.{AlreadyArchive, InsideItself}
use Rattle.org_stamp.specs.Calendar.{Moment, weekday_of}
use Rattle.org_stamp.specs.Stamp.{date_text, day_name, clock_text}
use Rattle.org_outline.specs.declared.steps.Step.{Step}
use Rattle.org_outline.specs.declared.moves.Place.TheVariants.{Last}
use Rattle.org_outline.specs.declared.paths.PathFault.{PathFault}
use Rattle.org_outline.specs.States.{Keywords}
use Rattle.org_outline.specs.Tree.{Document, Node, node_at, node_count, nodes}
use Rattle.org_outline.specs.Parts.{parts_of}
use Rattle.org_outline.specs.Paths.{find_path, refusal_of, titled_nodes, the_only}
use Rattle.org_outline.specs.Moves.{append_heading, insert, shift_node, take as take_out}
use Rattle.org_outline.specs.Numbers.{heading_over, parent_without, size_of}
use Rattle.org_meta.specs.Sections.{NodeProperty, SectionParts, joined, put, split}
use Rattle.org_move.specs.Inherited.{nearest, titles_above, inherited_tags}
use Rattle.org_move.specs.Location.{Destination}
use Rattle.org_move.specs.Refile.{Moved, is_inside, with_found}

-- ---- the properties of an archived entry

-- the moment as `2026-07-01 Wed 10:00`
abbrev pub time_text : Moment → List ℕ
time_text now =
    date_text now.day ++ (32 ∷ day_name (weekday_of now.day)) ++ (32 ∷ clock_text now.minute)

-- a file's name without `.org`
abbrev pub without_org : List ℕ → List ℕ
without_org name =
    if ends_with nat_eq name (codes ".org") then take (length name - 4) name else name

-- the nearest CATEGORY, or the file's own name without its folders
abbrev pub category_of : List ℕ → Document → ℕ → List ℕ
category_of name d i =
    unwrap_or (nearest (codes "CATEGORY") d i) (without_org (last_part name))

abbrev pub named : List ℕ → List ℕ → NodeProperty
named name value = record { name = name; value = value }

-- a property of these, left out where there are none
abbrev pub unless_none : {X : Type 0} → List X → NodeProperty → List NodeProperty
unless_none [] p = []
unless_none (x ∷ xs) p = p ∷ []

-- texts with a byte between each two; nothing where there are none
abbrev pub joined_if_any : ℕ → List (List ℕ) → Option (List ℕ)
joined_if_any b [] = None
joined_if_any b (text ∷ texts) = Some (join_with_byte b (text ∷ texts))

-- the properties, in their order, of the heading i in the file of this name
abbrev pub archive_properties : Keywords → List ℕ → Moment → Document → ℕ → List NodeProperty
archive_properties states name now d i =
    let titles = titles_above states d i in
    let keyword = (parts_of states (node_at d i).node.rest).keyword in
    let tags = inherited_tags states d i in
    named (codes "ARCHIVE_TIME") (time_text now)
    ∷ named (codes "ARCHIVE_FILE") name
    ∷ (unless_none titles (named (codes "ARCHIVE_OLPATH") (join_with_byte 47 titles))
    ++ named (codes "ARCHIVE_CATEGORY") (category_of name d i)
    ∷ (unless_none keyword (named (codes "ARCHIVE_TODO") keyword)
    ++ unless_none tags (named (codes "ARCHIVE_ITAGS") (join_with_byte 32 tags))))

-- each of the properties put, one after another
abbrev pub put_each : List NodeProperty → SectionParts → SectionParts
put_each [] parts = parts
put_each (p ∷ ps) parts = put_each ps (put p.name p.value parts)

-- the heading i with its properties put
abbrev pub archived_section : Keywords → List ℕ → Moment → Document → ℕ → List (List ℕ)
archived_section states name now d i =
    joined (put_each (archive_properties states name now d i) (split (node_at d i).node.section))

abbrev pub archived : Keywords → List ℕ → Moment → Document → ℕ → Node
archived states name now d i =
    record (node_at d i).node { section = archived_section states name now d i }

-- ---- the heading that it goes below

-- the one heading of that level and title, at any place, if there is one; at the top level there is
-- none
abbrev pub target_heading : Keywords → Destination → Document → Result (Option ℕ) PathFault
target_heading states to d =
    if to.level == 0 then Ok None
    else the_only (filter (λ i. (node_at d i).node.level == to.level)
    (titled_nodes states to.title 0 (nodes d)))

-- a node put last below the heading; where there is none, last at top level, or below the heading
-- made at the end
abbrev pub put_last : Destination → Option ℕ → Node → Document → Document
put_last to (Some p) node d = insert (Some p) Last node d
put_last to None node d =
    if to.level == 0 then insert None Last node d
    else insert (Some (node_count d)) Last node (append_heading to.level (32 ∷ to.title) d)

-- what is put in, where `above` is the level of the heading that is there
abbrev pub filled : Destination → Option ℕ → Node → Node
filled to (Some above) node = shift_node (above + 1) node
filled to None node =
    if to.level == 0 then shift_node 1 node
    else heading_over to.level (32 ∷ to.title) (shift_node (to.level + 1) node)

-- ---- archiving

-- what is made with the heading of a destination, and the refusal where there are several
abbrev pub with_heading : {A : Type 0} → Result (Option ℕ) PathFault
    → (Option ℕ → Result A Refusal) → Result A Refusal
with_heading (Ok up) make = make up
with_heading (Err fault) make = Err (refusal_of fault)

-- what is made where the heading at the destination, if it is there, neither lies in the entry nor
-- above it
abbrev pub if_apart : {A : Type 0} → Document → ℕ → Option ℕ → A → Result A Refusal
if_apart d i None new = Ok new
if_apart d i (Some p) new =
    if is_inside d i p then Err InsideItself
    else (if is_inside d p i then Err AlreadyArchive else Ok new)

-- archiving within a document, the text of the file of this name: heading i goes to the destination
abbrev pub archive_within_at : Keywords → List ℕ → Moment → Destination → Document → ℕ
    → Result Document Refusal
archive_within_at states name now to d i =
    with_heading (target_heading states to d) (λ up.
    if_apart d i up
    (put_last to (parent_without i (size_of d i) up) (archived states name now d i)
    (take_out i d)))

-- .. and so does the heading at `path`
abbrev pub archive_within : Keywords → List ℕ → List Step → Moment → Destination → Document
    → Result Document Refusal
archive_within states name path now to d =
    with_found (find_path states d path) (λ i. archive_within_at states name now to d i)

-- archiving into another document, the text of the destination's file: heading i of the source
abbrev pub archive_across_at : Keywords → List ℕ → Moment → Document → Keywords → Destination
    → Document → ℕ → Result Moved Refusal
archive_across_at states name now source there to target i =
    with_heading (target_heading there to target) (λ up.
    Ok (record {
      source = take_out i source;
      target = put_last to up (archived states name now source i) target;
    }))

-- .. and the heading at `path`
abbrev pub archive_across : Keywords → List ℕ → List Step → Moment → Document → Keywords
    → Destination → Document → Result Moved Refusal
archive_across states name path now source there to target =
    with_found (find_path states source path) (λ i.
    archive_across_at states name now source there to target i)
