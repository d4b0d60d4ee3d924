-- Date trees: a heading for each year, for each month below its year, and for each day below its
-- month (Org manual, "Template elements": target `file+olp+datetree`).
use Rattle.std.specs.Prelude.{ℕ, ◌+◌, Bool, true, false, ◌&&◌, ◌||◌, ◌==◌, List, [], ◌∷◌, ◌++◌, codes, length, take, drop, find, if◌then◌else◌, Option, None, Some}
use Rattle.std.specs.Char.{is_ascii_digit}
use Rattle.std.specs.Option.{option_map_or}
use Rattle.std.specs.Ordering.{nat_cmp, ordering_index}
use Rattle.std.specs.Cmp.Lexicographic.{slice_cmp}
use Rattle.std.specs.declared.cmp.Ordering.{Ordering}
use Rattle.std.specs.declared.cmp.Ordering.TheVariants.{Equal, Greater}
use Rattle.org_outline.specs.declared.moves.Place.{Place}
use Rattle.org_outline.specs.declared.moves.Place.TheVariants.{Last}
use Rattle.org_outline.specs.States.{Keywords}
use Rattle.org_headings.specs.Text.{heading_line}
use Rattle.org_outline.specs.Tree.{Node, Document, node_at, node_count}
use Rattle.org_outline.specs.Moves.{insert, insert_before, level_below, shift_node}
use Rattle.org_outline.specs.Numbers.{children_of, heading_over, size_of}
use Rattle.org_outline.specs.Paths.{title_of}
use Rattle.org_stamp.specs.Calendar.{CivilDay, weekday_of}
use Rattle.org_stamp.specs.Stamp.{date_text}
use Rattle.org_capture.specs.declared.dates.DateKind.{DateKind}
use Rattle.org_capture.specs.declared.dates.DateKind.TheVariants.{Year, Month, Day}

-- ---- titles and keys

-- `YYYY`, `YYYY-MM`, `YYYY-MM-DD`
abbrev pub key_len : DateKind → ℕ
key_len Year = 4
key_len Month = 7
key_len Day = 10

-- digits, but hyphens at the places 4 and 7, where these bytes begin at a place
abbrev pub is_key_from : ℕ → List ℕ → Bool
is_key_from i [] = true
is_key_from i (b ∷ bs) =
    (if i == 4 || i == 7 then b == 45 else is_ascii_digit b) && is_key_from (i + 1) bs

-- after a month's or a day's key a space and any text may stand
abbrev pub may_follow : DateKind → List ℕ → Bool
may_follow kind [] = true
may_follow Year (b ∷ bs) = false
may_follow Month (b ∷ bs) = b == 32
may_follow Day (b ∷ bs) = b == 32

-- the key of a title, if it is that of a date heading of this kind; no calendar is asked
abbrev pub key_of : DateKind → List ℕ → Option (List ℕ)
key_of kind title =
    if length (take (key_len kind) title) == key_len kind
    && is_key_from 0 (take (key_len kind) title)
    && may_follow kind (drop (key_len kind) title)
    then Some (take (key_len kind) title) else None

abbrev pub month_name : ℕ → List ℕ
month_name m =
    if m == 1 then codes "January"
    else if m == 2 then codes "February"
    else if m == 3 then codes "March"
    else if m == 4 then codes "April"
    else if m == 5 then codes "May"
    else if m == 6 then codes "June"
    else if m == 7 then codes "July"
    else if m == 8 then codes "August"
    else if m == 9 then codes "September"
    else if m == 10 then codes "October"
    else if m == 11 then codes "November"
    else codes "December"

-- from 0 for Monday
abbrev pub weekday_name : ℕ → List ℕ
weekday_name w =
    if w == 0 then codes "Monday"
    else if w == 1 then codes "Tuesday"
    else if w == 2 then codes "Wednesday"
    else if w == 3 then codes "Thursday"
    else if w == 4 then codes "Friday"
    else if w == 5 then codes "Saturday"
    else codes "Sunday"

-- what a day's headings have after their keys
abbrev pub behind_key : DateKind → CivilDay → List ℕ
behind_key Year day = []
behind_key Month day = 32 ∷ month_name day.month
behind_key Day day = 32 ∷ weekday_name (weekday_of day)

abbrev pub key_on : DateKind → CivilDay → List ℕ
key_on kind day = take (key_len kind) (date_text day)

-- `2026`, `2026-07 July`, `2026-07-01 Wednesday`
abbrev pub date_title : DateKind → CivilDay → List ℕ
date_title kind day = key_on kind day ++ behind_key kind day

-- ---- the headings that are there

-- whether a key compares with another one in this way, as a text
abbrev pub compares : Ordering → List ℕ → List ℕ → Bool
compares wanted other key = ordering_index (slice_cmp nat_cmp key other) == ordering_index wanted

-- a date heading of this kind and level, whose key compares with the one given in this way
abbrev pub is_dated : Keywords → ℕ → DateKind → List ℕ → Ordering → Node → Bool
is_dated states level kind key wanted node =
    node.level == level
    && option_map_or (compares wanted key) (key_of kind (title_of states node.rest)) false

-- the first such heading one level below a node, or at level 1
abbrev pub first_dated : Keywords → Document → Option ℕ → DateKind → List ℕ → Ordering → Option ℕ
first_dated states d up kind key wanted =
    find (λ i. is_dated states (level_below up d) kind key wanted (node_at d i).node)
    (children_of d up)

-- the number of the first node below a node, or at top level, and of the first after those
abbrev pub span_below : Document → Option ℕ → ℕ × ℕ
span_below d None = (0, node_count d)
span_below d (Some i) = (i + 1, i + size_of d i)

-- ---- the headings that are made

-- new date headings from a level on, each with the next one below it, and the entry below the last
abbrev pub made_over : ℕ → List DateKind → CivilDay → Node → Node
made_over level [] day entry = shift_node level entry
made_over level (kind ∷ kinds) day entry =
    heading_over level (32 ∷ date_title kind day) (made_over (level + 1) kinds day entry)

-- the lines of those headings
abbrev pub made_lines : ℕ → List DateKind → CivilDay → List ℕ
made_lines level [] day = []
made_lines level (kind ∷ kinds) day =
    (heading_line level (32 ∷ date_title kind day) ++ 10 ∷ []) ++ made_lines (level + 1) kinds day

-- a new heading goes before the first date heading of its kind with a greater key, else last
abbrev pub put_dated : Option ℕ → Option ℕ → Node → Document → Document
put_dated (Some later) up node d = insert_before later node d
put_dated None up node d = insert up Last node d

-- what lies below a heading that was found, else what is made
abbrev pub found_or_made : Option ℕ → (ℕ → Document) → Document → Document
found_or_made (Some i) below made = below i
found_or_made None below made = made

-- the entry below the day's headings of these kinds, each among the children of the last: the first
-- with the key is taken, and from the first that is missing on they are made
abbrev pub dated : Keywords → Place → CivilDay → Node → Document → List DateKind → Option ℕ
    → Document
dated states place day entry d [] up = insert up place entry d
dated states place day entry d (kind ∷ kinds) up =
    found_or_made (first_dated states d up kind (key_on kind day) Equal)
    (λ i. dated states place day entry d kinds (Some i))
    (put_dated (first_dated states d up kind (key_on kind day) Greater) up
    (made_over (level_below up d) (kind ∷ kinds) day entry) d)
