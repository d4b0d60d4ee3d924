-- Where an archived subtree goes (Org manual, "Moving a tree to an archive file"; Org Syntax,
-- "Keywords").
use Rattle.std.specs.Prelude.{◌≡◌, ◌⊎◌, ◌<◌, ◌≤◌, ℕ, ◌-◌, nat_lt, ◌==◌, Bool, false, ◌&&◌, if◌then◌else◌, List, [], ◌∷◌, ◌++◌, codes, length, take, drop, Option, None, Some, is_some, Result, Ok, Err}
use Rattle.std.specs.Borrow.{Bor}
use Rattle.std.specs.List.{find}
use Rattle.std.specs.Option.{option_map, option_and_then, option_or, unwrap_or}
use Rattle.std.specs.Str.{bytes_eq, str_eq_ignore_ascii_case, is_utf8}
use Rattle.org_fault.specs.declared.refusal.Refusal.{Refusal}
use Rattle.org_fault.specs.declared.refusal.Refusal.TheVariants.{AlreadyArchive, BadLocation, NoSuchFile}
use Rattle.org_splice.specs.Blanks.{is_blank, behind, trimmed}
use Rattle.org_splice.specs.Lines.{terminated, lines_of}
use Rattle.org_disk.specs.Names.{folder_of, is_archive_name, is_file_name, last_part, parts}
use Rattle.org_meta.specs.Lines.{BeginsWith}
use Rattle.org_outline.specs.declared.steps.Step.{Step}
use Rattle.org_outline.specs.States.{Keywords}
use Rattle.org_headings.specs.Text.{level_of}
use Rattle.org_outline.specs.Tree.{tree}
use Rattle.org_outline.specs.Parts.{Parts, parts_of}
use Rattle.org_outline.specs.Paths.{find_path}
use Rattle.org_move.specs.Inherited.{nonempty, nearest}
use Rattle.org_move.specs.Refile.{with_found}

-- a file, and the heading in it below which the subtree goes; at level 0 there is none, and it goes
-- to the top level
pub record Destination : Type 0 where
  pub file : List ℕ
  pub level : ℕ
  pub title : List ℕ

-- ---- the value of a text

-- the line begins, after blanks, with `#+ARCHIVE:`; ASCII case doesn't count
abbrev pub is_archive_line : List ℕ → Bool
is_archive_line l = str_eq_ignore_ascii_case (take 10 (behind is_blank l)) (codes "#+ARCHIVE:")

-- what stands after it, without the blanks round it
abbrev pub value_behind : List ℕ → List ℕ
value_behind l = trimmed (drop 10 (behind is_blank l))

-- the text has such a line
abbrev pub has_archive_line : List ℕ → Bool
has_archive_line text = is_some (find is_archive_line (lines_of text))

-- what is left of a text after whole lines, none of which is such a line
pub record IsBehindOthers (text left : List ℕ) : Type 0 where
  pub before : List ℕ
  pub parts : text ≡ before ++ left
  pub terminated_before : terminated before ≡ before
  pub terminated_left : terminated left ≡ left
  pub none : has_archive_line before ≡ false

-- .. of which this is the first line, and this the rest
pub record ComesTo (text line rest : List ℕ) : Type 0 where
  pub left : List ℕ
  pub behind : IsBehindOthers text left
  pub begins : BeginsWith left line rest

-- the lines of a text between those that stand whole within its first `front` bytes and those that
-- begin within its last `back` bytes, maybe with the first of these, and what follows them
pub record LeavesLines (text : List ℕ) (front back : ℕ) (lines rest : List ℕ) : Type 0 where
  pub before : List ℕ
  pub parts : text ≡ before ++ (lines ++ rest)
  pub terminated_before : terminated before ≡ before
  pub terminated_lines : terminated lines ≡ lines
  pub short : length before ≤ front
  pub last : (rest ≡ []) ⊎ (length rest < back)

-- the value of the first such line: a later one doesn't count, even where the first one is empty
abbrev pub value_of_lines : List (List ℕ) → Option (List ℕ)
value_of_lines ls = option_and_then (λ l. nonempty (value_behind l)) (find is_archive_line ls)

-- the value that counts for a heading of a text: that of the nearest property, of the text's line,
-- or the default
abbrev pub value_for : List ℕ → ℕ → List ℕ
value_for text i =
    unwrap_or (option_or (nearest (codes "ARCHIVE") (tree text) i) (value_of_lines (lines_of text)))
    (codes "%s_archive::")

-- ---- what a value says

pub record Halves : Type 0 where
  pub file : List ℕ
  pub heading : List ℕ

abbrev pub with_byte : ℕ → Halves → Halves
with_byte b halves = record halves { file = b ∷ halves.file }

-- before and after the first `::`
abbrev pub halves_of : List ℕ → Option Halves
halves_of [] = None
halves_of (b ∷ []) = None
halves_of (b ∷ c ∷ bs) =
    if b == 58 && c == 58 then Some (record { file = []; heading = bs })
    else option_map (with_byte b) (halves_of (c ∷ bs))

-- with a file's name in the place of each `%s`
abbrev pub with_name : List ℕ → List ℕ → List ℕ
with_name name [] = []
with_name name (b ∷ []) = b ∷ []
with_name name (b ∷ c ∷ bs) =
    if b == 37 && c == 115 then name ++ with_name name bs else b ∷ with_name name (c ∷ bs)

-- a folder's path, with a slash at its end, after one more part of a way; `..` leads one folder up,
-- and not above the store, whose path is empty
abbrev pub after_part : List ℕ → List ℕ → Option (List ℕ)
after_part folder part =
    if bytes_eq part (codes "..") then
    (if length folder == 0 then None else Some (folder_of (take (length folder - 1) folder)))
    else Some (folder ++ part ++ codes "/")

-- the path at the end of a way that begins in a folder
abbrev pub at_end : List ℕ → List (List ℕ) → Option (List ℕ)
at_end folder [] = Some (take (length folder - 1) folder)
at_end folder (part ∷ rest) =
    option_and_then (λ folder. at_end folder rest) (after_part folder part)

-- The file that a text says in the file of this name: it is read from that file's folder, and `%s`
-- is the name there. An empty text is the same file.
abbrev pub file_named : List ℕ → List ℕ → Option (List ℕ)
file_named name [] = Some name
file_named name (b ∷ bs) = at_end (folder_of name) (parts (with_name (last_part name) (b ∷ bs)))

pub record Heading : Type 0 where
  pub level : ℕ
  pub title : List ℕ

-- a title alone: nonempty, without keyword, priority and tags
abbrev pub is_title_alone : Parts → Bool
is_title_alone parts =
    length parts.keyword == 0
    && length parts.priority == 0
    && length parts.tags == 0
    && nat_lt 0 (length parts.title)

-- the two as the code has them
abbrev pub halves_made : Bor (List ℕ) × Bor (List ℕ) → Halves
halves_made halves = record { file = halves.0.now; heading = halves.1.now }

abbrev pub heading_made : ℕ × Bor (List ℕ) → Heading
heading_made heading = record { level = heading.0; title = heading.1.now }

-- the heading of a level that a line is, where it is a title alone
abbrev pub titled_line : Keywords → List ℕ → ℕ → Option Heading
titled_line states l level =
    let parts = parts_of states (drop level l) in
    if is_title_alone parts then Some (record { level = level; title = parts.title }) else None

-- the heading that the line is; no line is the top level
abbrev pub heading_of : Keywords → List ℕ → Option Heading
heading_of states [] = Some (record { level = 0; title = [] })
heading_of states (b ∷ bs) = option_and_then (titled_line states (b ∷ bs)) (level_of (b ∷ bs))

-- the destination that a value names in the file of this name, if it names one
abbrev pub location_of : Keywords → List ℕ → List ℕ → Option Destination
location_of states name value =
    option_and_then (λ halves. option_and_then (λ heading. option_map (λ file.
    let to : Destination = record {
      file = file;
      level = heading.level;
      title = heading.title;
    } in to)
    (file_named name halves.file))
    (heading_of states halves.heading))
    (halves_of value)

-- one whose file has a name that a file can have
abbrev pub with_file : Destination → Result Destination Refusal
with_file to = if is_utf8 to.file && is_file_name to.file then Ok to else Err NoSuchFile

-- what is made of a destination, and the refusal where there is none
abbrev pub and_file : Option Destination → Result Destination Refusal
and_file None = Err BadLocation
and_file (Some to) = with_file to

-- where heading i goes that is archived from the file of this name
abbrev pub location_at : Keywords → List ℕ → List ℕ → ℕ → Result Destination Refusal
location_at states name text i =
    if is_archive_name name then Err AlreadyArchive
    else and_file (location_of states name (value_for text i))

-- .. and the heading at a path
abbrev pub location : Keywords → List ℕ → List Step → List ℕ → Result Destination Refusal
location states name path text =
    with_found (find_path states (tree text) path) (λ i. location_at states name text i)
