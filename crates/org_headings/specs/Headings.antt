-- What is kept of a text's headings: where each begins, its level, and how its title
-- can begin.
use Rattle.std.specs.Prelude.{◌≡◌, ℕ, suc, nat_lt, min, ◌⊎◌, Bool, ◌==◌, ◌&&◌, ◌||◌, Option, Some, None, if◌then◌else◌, [], ◌∷◌, ◌+◌, List, map, find, length, nat_le, ◌-◌, ◌<◌, ◌≤◌, ◌^◌, take, drop}
use Rattle.std.specs.Option.{option_map_or}
use Rattle.org_splice.specs.Lines.{terminated, lines_of}
use Rattle.org_headings.specs.declared.heads.Heading.{Heading}
use Rattle.org_headings.specs.declared.beginnings.Beginnings.{Beginnings}
use Rattle.org_headings.specs.Beginnings.{beginnings_of, may_begin_date}
use Rattle.org_headings.specs.Text.{level_of, line_at}

-- a heading in front of others, where the line that begins at `at` has a level
abbrev pub with_heading : Option ℕ → ℕ → List ℕ → List Heading → List Heading
with_heading None at line hs = hs
with_heading (Some n) at line hs =
    record { start = at; level = n; beginnings = beginnings_of (drop n line) } ∷ hs

-- the headings among these lines, which begin at `at`
abbrev pub headings_from : ℕ → List (List ℕ) → List Heading
headings_from at [] = []
headings_from at (l ∷ ls) = with_heading (level_of l) at l (headings_from (at + length l + 1) ls)

-- the headings of a text, in document order
abbrev pub headings_of : List ℕ → List Heading
headings_of t = headings_from 0 (lines_of t)

-- ---- searches among headings

-- whether a heading has this level, and a title that can begin with a digit
abbrev pub can_be_dated : ℕ → Heading → Bool
can_be_dated level h =
    h.level == level
    && (may_begin_date h.beginnings.first || may_begin_date h.beginnings.second)

-- the lowest of these headings' levels and of another one
abbrev pub lowest_level : ℕ → List Heading → ℕ
lowest_level level [] = level
lowest_level level (h ∷ hs) = lowest_level (min level h.level) hs

-- how the titles of headings can begin; or nothing
abbrev pub AreBeginnings : List Beginnings → List Heading → Type 0
AreBeginnings lines hs = (lines ≡ map (λ (h : Heading). h.beginnings) hs) ⊎ (lines ≡ [])

-- where the first of these headings begins that is not deeper than n, and the end where there is
-- none
abbrev pub next_at : ℕ → List Heading → ℕ → ℕ
next_at n hs end = option_map_or (λ h. h.start) (find (λ h. nat_le h.level n) hs) end

-- where the first of these headings begins, and the end where there is none
abbrev pub start_or : List Heading → ℕ → ℕ
start_or [] end = end
start_or (h ∷ hs) end = h.start

-- the number of the last of these headings whose level is less than n; i is the number of the
-- first, and `best` what was found before
abbrev pub last_above : ℕ → ℕ → Option ℕ → List Heading → Option ℕ
last_above n i best [] = best
last_above n i best (h ∷ hs) = last_above n (suc i) (if nat_lt h.level n then Some i else best) hs

-- ---- the headings of a part of a text

-- whether a line ends with these bytes, where `before` says so of what stands before them
abbrev pub ends_line : Bool → List ℕ → Bool
ends_line before [] = before
ends_line before (b ∷ bs) = ends_line (b == 10) bs

-- the headings of a text that begins at `at` of another one; `fresh` says whether a line begins
-- there
abbrev pub heads_from : ℕ → Bool → List ℕ → List Heading
heads_from at fresh [] = []
heads_from at fresh (b ∷ bs) =
    with_heading (if fresh then level_of (b ∷ bs) else None) at (line_at (b ∷ bs))
    (heads_from (suc at) (b == 10) bs)

-- ---- an edit

-- the text `after` comes from a terminated text with these headings: `removed` bytes at `at` are
-- replaced by `added` others
pub record IsEdit (headings : List Heading) (after : List ℕ) (at removed added : ℕ) : Type 0 where
  pub before : List ℕ
  pub headings_are : headings ≡ headings_of before
  pub before_terminated : terminated before ≡ before
  pub after_terminated : terminated after ≡ after
  pub before_small : length before < 2 ^ 64
  pub removed_in : at + removed ≤ length before
  pub added_in : at + added ≤ length after
  pub front : take at after ≡ take at before
  pub back : drop (at + added) after ≡ drop (at + removed) before

-- a heading after an edit, moved by it
abbrev pub moved : ℕ → ℕ → Heading → Heading
moved removed added h =
    record { start = h.start - removed + added; level = h.level; beginnings = h.beginnings }

pub record CanMove (removed added : ℕ) (h : Heading) : Type 0 where
  pub low : removed ≤ h.start
  pub high : h.start - removed + added < 2 ^ 64
