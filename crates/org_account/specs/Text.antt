-- A text that both sides changed: which lines the merged text has, how often, and in which order.
use Rattle.std.specs.Prelude.{◌≡◌, ◌⊎◌, ⊤, ℕ, ◌+◌, ◌-◌, ◌<◌, ◌≤◌, min, max, nat_lt, nat_eq, nat_le, Bool, ◌&&◌, ◌||◌, ◌==◌, not, true, false, IsTrue, List, [], ◌∷◌, ◌++◌, codes, Option, Some, suc, if◌then◌else◌, length, slice_index}
use Rattle.std.specs.List.{AllByRecursion, starts_with}
use Rattle.memchr.specs.Find.{OccursAt}
use Rattle.std.specs.Str.{bytes_eq, str_eq_ignore_ascii_case}
use Rattle.org_splice.specs.Blanks.{is_blank, is_solid, behind, front, trimmed}
use Rattle.org_splice.specs.Lines.{lines_of}

-- r is what one side alone made of b, or what both made of it
abbrev pub IsTaken : {A : Type 0} → Option A → A → A → A → Type 0
IsTaken b o t r =
    ((b ≡ Some t) × (r ≡ o)) ⊎ ((b ≡ Some o) × (r ≡ t)) ⊎ ((o ≡ t) × (r ≡ o))

-- ---- lines and quotes

-- how often a line stands in a text
abbrev pub copies_among : List ℕ → List (List ℕ) → ℕ
copies_among line [] = 0
copies_among line (l ∷ ls) =
    if bytes_eq l line then suc (copies_among line ls) else copies_among line ls

abbrev pub copies : List ℕ → List ℕ → ℕ
copies line text = copies_among line (lines_of text)

-- `: CONFLICT: ` and a line that gave way
abbrev pub quoted : List ℕ → List ℕ
quoted line = 58 ∷ 32 ∷ 67 ∷ 79 ∷ 78 ∷ 70 ∷ 76 ∷ 73 ∷ 67 ∷ 84 ∷ 58 ∷ 32 ∷ line

-- the report tells a line: it is the last field of one of the report's lines
abbrev pub IsToldLine : List ℕ → List ℕ → Type 0
IsToldLine told line = (front : List ℕ) × (0 < copies (front ++ 9 ∷ line) told)

-- the report tells of an event: a line of it has this field, between tabs
abbrev pub IsToldOf : List ℕ → List ℕ → Type 0
IsToldOf told event =
    (line : List ℕ)
    × ((k : ℕ) × (0 < copies line told) × OccursAt line (9 ∷ (event ++ 9 ∷ [])) k)

-- the report tells of a conflict
abbrev pub IsConflict : List ℕ → Type 0
IsConflict told = (fields : List ℕ) × (0 < copies (codes "conflict" ++ 9 ∷ fields) told)

-- `:NAME:`, alone or before a value
abbrev pub is_property : List ℕ → Bool
is_property body =
    let run = front is_solid body in
    nat_le 3 (length run) && slice_index run 0 == 58 && slice_index run (length run - 1) == 58

-- a clock line, a planning line or a property
abbrev pub is_keyed : List ℕ → Bool
is_keyed line =
    let body = behind is_blank line in
    starts_with nat_eq body (codes "CLOCK:")
    || starts_with nat_eq body (codes "CLOSED:")
    || starts_with nat_eq body (codes "DEADLINE:")
    || starts_with nat_eq body (codes "SCHEDULED:")
    || is_property body

-- no closing bracket
abbrev pub is_inside : ℕ → Bool
is_inside b = not (b == 93)

-- what a keyed line is known by: a clock line by its start, others by their first word
abbrev pub key_of : List ℕ → List ℕ
key_of line =
    let body = behind is_blank line in
    if starts_with nat_eq body (codes "CLOCK:") then front is_inside body else front is_solid body

-- a keyed line that says something besides its key: so no mark of a drawer
abbrev pub is_single : List ℕ → Bool
is_single line = is_keyed line && nat_lt (length (key_of line)) (length (trimmed line))

-- two such lines that are known by one key and say different things
abbrev pub are_rivals : List ℕ → List ℕ → Bool
are_rivals line other =
    is_single line
    && (is_single other
    && (str_eq_ignore_ascii_case (key_of line) (key_of other) && not (bytes_eq line other)))

-- ---- how often

-- the least copies of a line that is there b times in base, o times in ours and t times in theirs:
-- if both sides added it, those of the side that has more; else what neither side took out
abbrev pub least : ℕ → ℕ → ℕ → ℕ
least b o t = if nat_lt b o && nat_lt b t then max o t else o + t - b

-- the most copies: those that a side added, and those that both kept
abbrev pub most : ℕ → ℕ → ℕ → ℕ
most b o t = (o - b) + (t - b) + min b (min o t)

-- A text that both sides changed: what the folders have of it, the lines of the entry's heading in
-- ours and theirs, and what the report tells of the entry. If base has no such entry, its text is
-- empty.
pub record Changed : Type 0 where
  pub told : List ℕ
  pub ours_line : List ℕ
  pub theirs_line : List ℕ
  pub base : List ℕ
  pub ours : List ℕ
  pub theirs : List ℕ
  pub merged : List ℕ

abbrev pub least_of : Changed → List ℕ → ℕ
least_of c line = least (copies line c.base) (copies line c.ours) (copies line c.theirs)

abbrev pub most_of : Changed → List ℕ → ℕ
most_of c line = most (copies line c.base) (copies line c.ours) (copies line c.theirs)

-- A line gave way to a rival that stands in the merged text, and the report tells it.
abbrev pub GaveWay : Changed → List ℕ → Type 0
GaveWay c line =
    IsToldLine c.told line
    × ((other : List ℕ) × (0 < copies other c.merged) × IsTrue (are_rivals line other))

-- the quotes of a line that the merge made
abbrev pub new_quotes : Changed → List ℕ → ℕ
new_quotes c line = copies (quoted line) c.merged - least_of c (quoted line)

-- no copy of the line is lost: each is in the merged text, plain or quoted, or it gave way
abbrev pub IsKeptLine : Changed → List ℕ → Type 0
IsKeptLine c line =
    (least_of c line ≤ copies line c.merged + new_quotes c line) ⊎ GaveWay c line

-- the quote of a line, of which the merged text lacks this many copies
abbrev pub IsDueQuote : Changed → ℕ → List ℕ → Type 0
IsDueQuote c more line =
    (l : List ℕ)
    × (line ≡ quoted l)
    × (more ≤ most_of c l - copies l c.merged)
    × IsToldLine c.told l

-- the quote of one of the two headings, with one star
abbrev pub IsHeadingQuote : Changed → List ℕ → Type 0
IsHeadingQuote c line =
    (heading : List ℕ)
    × (line ≡ quoted (42 ∷ heading))
    × IsToldLine c.told (42 ∷ heading)
    × ((heading ≡ c.ours_line) ⊎ (heading ≡ c.theirs_line))

-- No copy of the line is made up or doubled. If the report tells it, a quote may stand for copies
-- that the merged text lacks, and once for a heading.
abbrev pub IsDueLine : Changed → List ℕ → Type 0
IsDueLine c line =
    let more : ℕ = copies line c.merged - most_of c line in
    (more ≡ 0) ⊎ IsDueQuote c more line ⊎ ((more ≡ 1) × IsHeadingQuote c line)

-- ---- none twice

-- a side has both lines
abbrev pub StandTogether : Changed → (line other : List ℕ) → Type 0
StandTogether c line other =
    ((0 < copies line c.ours) × (0 < copies other c.ours))
    ⊎ ((0 < copies line c.theirs) × (0 < copies other c.theirs))

-- the merged text has no rival of the line that no side has beside it
abbrev pub IsAlone : Changed → List ℕ → List ℕ → Type 0
IsAlone c line other = IsTrue (are_rivals line other) → StandTogether c line other

-- a property, a planning line or a clock line stands in the merged text no oftener than a side has
-- it, and without a rival
pub record IsSingleLine (c : Changed) (line : List ℕ) : Type 0 where
  pub once : IsTrue (is_single line)
      → copies line c.merged ≤ max (copies line c.ours) (copies line c.theirs)
  pub alone : (other : List ℕ) → 0 < copies other c.merged → IsAlone c line other

-- ---- in which order

-- a line is this one, or quotes it
abbrev pub IsHolder : (line holder : List ℕ) → Type 0
IsHolder line holder = (holder ≡ line) ⊎ (holder ≡ quoted line)

-- one of the lines is this one or quotes it, and P holds of the lines that follow
abbrev pub StandsBefore : List ℕ → (List (List ℕ) → Type 0) → List (List ℕ) → Type 0
StandsBefore line P [] = ⊥
StandsBefore line P (r ∷ rs) = (IsHolder line r × P rs) ⊎ StandsBefore line P rs

-- The lines stand in r, in their order, but for those that may be missing: each line in turn is in
-- r, after the line found before, or it may be missing besides the lines that already are.
abbrev pub StandIn : (List (List ℕ) → List ℕ → Type 0) → (missing lines r : List (List ℕ)) → Type 0
StandIn May missing [] r = ⊤
StandIn May missing (l ∷ ls) r =
    (May missing l × StandIn May (missing ++ l ∷ []) ls r)
    ⊎ StandsBefore l (StandIn May missing ls) r

-- the other side took this copy of the line out, or it gave way
abbrev pub MayBeMissing : Changed → (other : List ℕ) → (missing : List (List ℕ)) → List ℕ → Type 0
MayBeMissing c other missing line =
    (copies_among line missing < copies line c.base - copies line other) ⊎ GaveWay c line

abbrev pub is_log_start : List ℕ → Bool
is_log_start l = str_eq_ignore_ascii_case (trimmed l) (codes ":LOGBOOK:")

abbrev pub is_end : List ℕ → Bool
is_end l = str_eq_ignore_ascii_case (trimmed l) (codes ":END:")

abbrev pub has_end : List (List ℕ) → Bool
has_end [] = false
has_end (l ∷ ls) = is_end l || has_end ls

-- the lines that stand in no LOGBOOK drawer, whose lines are ordered by time; `log` says whether
-- the first one does
abbrev pub unlogged : Bool → List (List ℕ) → List (List ℕ)
unlogged log [] = []
unlogged true (l ∷ ls) = unlogged (not (is_end l)) ls
unlogged false (l ∷ ls) =
    if is_log_start l && has_end ls then unlogged true ls else l ∷ unlogged false ls

-- what a side's text keeps after the other's deletions stands in the merged text, in its order
abbrev pub IsInOrder : Changed → (side other : List ℕ) → Type 0
IsInOrder c side other =
    StandIn (MayBeMissing c other) [] (unlogged false (lines_of side)) (lines_of c.merged)

-- ---- all of it

-- the merged text has what both sides made of base's
pub record IsUnion (c : Changed) : Type 0 where
  pub kept : (line : List ℕ) → IsKeptLine c line
  pub due : (line : List ℕ) → IsDueLine c line
  pub single : (line : List ℕ) → 0 < copies line c.merged → IsSingleLine c line
  pub ours_order : IsInOrder c c.ours c.theirs
  pub theirs_order : IsInOrder c c.theirs c.ours

-- ---- while the lines are read

-- P holds of each line of a text
abbrev pub EachLine : (List ℕ → Type 0) → List ℕ → Type 0
EachLine P text = AllByRecursion P (lines_of text)

-- `more` are the lines after one that is this one or quotes it
abbrev pub IsAfter : List ℕ → (lines more : List (List ℕ)) → Type 0
IsAfter line [] more = ⊥
IsAfter line (r ∷ rs) more = (IsHolder line r × (rs ≡ more)) ⊎ IsAfter line rs more
