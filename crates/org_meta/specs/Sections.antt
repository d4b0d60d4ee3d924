-- The own lines of a heading below its heading line: planning, property drawer and the rest (Org
-- Syntax, "Headings", "Planning", "Property Drawers", "Node Properties").
use Rattle.std.specs.Prelude.{◌≡◌, ℕ, suc, ◌-◌, nat_eq, nat_le, ◌==◌, Bool, not, ◌&&◌, ◌||◌, if◌then◌else◌, Option, None, Some, is_some, List, [], ◌∷◌, ◌++◌, codes, length, slice_index, take, drop}
use Rattle.std.specs.Str.{str_eq_ignore_ascii_case}
use Rattle.std.specs.List.{starts_with, list_all}
use Rattle.std.specs.Option.{option_map, option_map_or}
use Rattle.org_splice.specs.Lines.{print_lines, lines_of}
use Rattle.org_meta.specs.declared.parts.Sections.{Sections}
use Rattle.org_splice.specs.Blanks.{is_blank, is_solid, front, behind, trimmed}

pub record SectionParts : Type 0 where
  -- the planning line, or no line
  pub planning : List (List ℕ)
  -- the property drawer, from `:PROPERTIES:` to `:END:`, or no line
  pub drawer : List (List ℕ)
  pub rest : List (List ℕ)

-- ---- lines

-- the line begins, after blanks, with `CLOSED:`, `DEADLINE:` or `SCHEDULED:`
abbrev pub is_planning : List ℕ → Bool
is_planning l =
    let body = behind is_blank l in
    starts_with nat_eq body (codes "CLOSED:")
    || starts_with nat_eq body (codes "DEADLINE:")
    || starts_with nat_eq body (codes "SCHEDULED:")

-- the line is this mark; blanks round it and ASCII case don't count
abbrev pub is_mark : List ℕ → List ℕ → Bool
is_mark mark l = str_eq_ignore_ascii_case (trimmed l) mark

abbrev pub is_drawer_start : List ℕ → Bool
is_drawer_start l = is_mark (codes ":PROPERTIES:") l

abbrev pub is_end : List ℕ → Bool
is_end l = is_mark (codes ":END:") l

pub record NodeProperty : Type 0 where
  pub name : List ℕ
  pub value : List ℕ

-- a colon, a nonempty name and a colon
abbrev pub is_name_run : List ℕ → Bool
is_name_run run =
    nat_le 3 (length run) && slice_index run 0 == 58 && slice_index run (length run - 1) == 58

-- `:NAME:`, then nothing or blanks and a value
abbrev pub property_of : List ℕ → Option NodeProperty
property_of l =
    let run = front is_solid (trimmed l) in
    if is_name_run run
    then Some (record {
      name = take (length run - 2) (drop 1 run);
      value = behind is_blank (behind is_solid (trimmed l));
    })
    else None

-- ---- the three parts

-- how many lines a planning line at the front takes
abbrev pub planning_size : List (List ℕ) → ℕ
planning_size [] = 0
planning_size (l ∷ ls) = if is_planning l then 1 else 0

-- how many lines there are up to the first `:END:`, itself counted, where only property lines come
-- before it
abbrev pub size_to_end : List (List ℕ) → Option ℕ
size_to_end [] = None
size_to_end (l ∷ ls) =
    if is_end l then Some 1
    else (if is_some (property_of l) then option_map suc (size_to_end ls) else None)

-- how many lines a property drawer at the front takes
abbrev pub drawer_size : List (List ℕ) → ℕ
drawer_size [] = 0
drawer_size (l ∷ ls) = if is_drawer_start l then option_map_or suc (size_to_end ls) 0 else 0

abbrev pub split : List (List ℕ) → SectionParts
split ls =
    let below = drop (planning_size ls) ls in
    record {
      planning = take (planning_size ls) ls;
      drawer = take (drawer_size below) below;
      rest = drop (drawer_size below) below;
    }

-- the parts of a section's bytes
abbrev pub parts_of : List ℕ → SectionParts
parts_of section = split (lines_of section)

abbrev pub joined : SectionParts → List (List ℕ)
joined parts = parts.planning ++ (parts.drawer ++ parts.rest)

-- the slices are the texts of these parts
pub record AreSections (slices : Sections) (parts : SectionParts) : Type 0 where
  pub planning : slices.planning.bytes.now ≡ print_lines parts.planning
  pub drawer : slices.drawer.bytes.now ≡ print_lines parts.drawer
  pub rest : slices.rest.bytes.now ≡ print_lines parts.rest

-- ---- properties

abbrev pub value_if_named : List ℕ → Option NodeProperty → Option (List ℕ)
value_if_named name None = None
value_if_named name (Some p) = if str_eq_ignore_ascii_case p.name name then Some p.value else None

-- the value, where the line is a property of this name; ASCII case doesn't count
abbrev pub value_named : List ℕ → List ℕ → Option (List ℕ)
value_named name l = value_if_named name (property_of l)

-- the first value of that name before the `:END:`
abbrev pub value_before_end : List ℕ → List (List ℕ) → Option (List ℕ)
value_before_end name [] = None
value_before_end name (l ∷ ls) =
    if is_end l then None
    else (if is_some (value_named name l) then value_named name l else value_before_end name ls)

-- a name that a property can have: bytes that aren't blank, and not END in any case
abbrev pub is_property_name : List ℕ → Bool
is_property_name name =
    not (length name == 0)
    && list_all is_solid name
    && not (str_eq_ignore_ascii_case name (codes "END"))

-- the value of the drawer's first property of that name
abbrev pub property : List ℕ → SectionParts → Option (List ℕ)
property name parts = value_before_end name (drop 1 parts.drawer)

-- `:NAME: VALUE`, or `:NAME:` where the value is empty
abbrev pub property_line : List ℕ → List ℕ → List ℕ
property_line name value =
    if length value == 0 then 58 ∷ (name ++ 58 ∷ []) else 58 ∷ (name ++ (58 ∷ 32 ∷ value))

-- the line in the place of the first property of that name, or else before the `:END:`
abbrev pub put_before_end : List ℕ → List ℕ → List (List ℕ) → List (List ℕ)
put_before_end name line [] = line ∷ []
put_before_end name line (l ∷ ls) =
    if is_end l then line ∷ l ∷ ls
    else (if is_some (value_named name l) then line ∷ ls else l ∷ put_before_end name line ls)

-- in the drawer, or in a new one
abbrev pub put_in_drawer : List ℕ → List ℕ → List (List ℕ) → List (List ℕ)
put_in_drawer name line [] = codes ":PROPERTIES:" ∷ line ∷ codes ":END:" ∷ []
put_in_drawer name line (start ∷ ls) = start ∷ put_before_end name line ls

abbrev pub put : List ℕ → List ℕ → SectionParts → SectionParts
put name value parts =
    record parts { drawer = put_in_drawer name (property_line name value) parts.drawer }
