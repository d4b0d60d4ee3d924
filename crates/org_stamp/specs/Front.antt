-- The timestamp at the front of a text (Org Syntax, "Timestamps"), as a function: an opening
-- bracket, a date, parts with blanks before each, and the closing bracket of the same kind.
-- `IsStampText` says the same as a relation.
use Rattle.std.specs.Prelude.{ℕ, ◌+◌, ◌-◌, ◌==◌, nat_le, Bool, true, false, not, ◌&&◌, ◌||◌, if◌then◌else◌, Option, None, Some, List, [], ◌∷◌, length, slice_index, take, drop, filter, count_by}
use Rattle.std.specs.List.{slice_split, filter_map, position}
use Rattle.org_stamp.specs.Calendar.{CivilDay}
use Rattle.org_stamp.specs.declared.kind.Times.{Times}
use Rattle.org_stamp.specs.Parts.{◌>>=◌, date_of, kind_of, is_blank, is_closing}
use Rattle.org_stamp.specs.Stamp.{Part, StampValue, is_name, times_in, is_cookie, are_apart, closing}

abbrev pub has_bytes : List ℕ → Bool
has_bytes [] = false
has_bytes (b ∷ bs) = true

-- the runs of bytes between blanks
abbrev pub runs_in : List ℕ → List (List ℕ)
runs_in bytes = filter has_bytes (slice_split is_blank bytes)

-- each run with what it says, if each says something
abbrev pub parts_in : List (List ℕ) → Option (List Part)
parts_in [] = Some []
parts_in (run ∷ runs) =
    kind_of run >>= λ kind.
    parts_in runs >>= λ parts.
    Some (record { run = run; kind = kind } ∷ parts)

-- no bytes, or a blank first and none last
abbrev pub is_spaced : List ℕ → Bool
is_spaced bytes =
    (length bytes == 0)
    || is_blank (slice_index bytes 0) && not (is_blank (slice_index bytes (length bytes - 1)))

-- what stands after a date: parts, with blanks before each
abbrev pub parts_of_tail : List ℕ → Option (List Part)
parts_of_tail tail = if is_spaced tail then parts_in (runs_in tail) else None

-- the time, where there is at most one
abbrev pub time_among : List Times → Option (Option Times)
time_among [] = Some None
time_among (t ∷ []) = Some (Some t)
time_among (t ∷ u ∷ more) = None

-- at most one repeater and one delay
abbrev pub all_apart : List Part → Bool
all_apart [] = true
all_apart (a ∷ []) = true
all_apart (a ∷ b ∷ []) = are_apart a.kind b.kind
all_apart (a ∷ b ∷ c ∷ more) = false

-- what a date and parts say together, in whatever order the parts stand: at most one day name, one
-- time, one repeater and one delay
abbrev pub said_by : Bool → CivilDay → List Part → Option StampValue
said_by active day parts =
    let cookies = filter (λ p. is_cookie p.kind) parts in
    if nat_le (count_by (λ p. is_name p.kind) parts) 1 && all_apart cookies
    then (time_among (filter_map (λ p. times_in p.kind) parts) >>= λ time.
    Some (record { active = active; day = day; time = time; cookies = cookies }))
    else None

-- what stands between the brackets: a date in the first ten bytes, and parts after it
abbrev pub inside_of : Bool → List ℕ → Option StampValue
inside_of active inside =
    date_of (take 10 inside) >>= λ day.
    parts_of_tail (drop 10 inside) >>= λ parts.
    said_by active day parts

-- `<` opens an active timestamp, `[` another one
abbrev pub active_of : ℕ → Option Bool
active_of b = if b == 60 then Some true else (if b == 91 then Some false else None)

-- what stands after the opening bracket, up to the first closing one, which is of the same kind
abbrev pub closed_of : Bool → List ℕ → Option ℕ → Option (StampValue × ℕ)
closed_of active rest None = None
closed_of active rest (Some at) =
    if slice_index rest at == closing active
    then (inside_of active (take at rest) >>= λ s. Some (s, at + 2))
    else None

-- the timestamp at the front of the bytes and its length, if there is one
abbrev pub stamp_at : List ℕ → Option (StampValue × ℕ)
stamp_at text =
    active_of (slice_index text 0) >>= λ active.
    closed_of active (drop 1 text) (position is_closing (drop 1 text))
