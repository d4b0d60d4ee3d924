-- The ranges cut, and with one more, made from the first range to the last.
use Rattle.std.proofs.Common.{◌≡◌, ◌<◌, ◌≤◌, ℕ, min, max, List, [], ◌∷◌, ◌++◌, arith, append_assoc}
use Rattle.std.proofs.lemmas.Grind.{common_steps}
use Rattle.std.proofs.lemmas.Bool.{lt-ltb, le-ltb, cond-true, cond-false}
use Rattle.org_splice.specs.declared.Span.{Span}
use Rattle.org_splice.specs.Ranges.{LieApart, cut_at, joined}
use Rattle.org_splice.proofs.Apart.{LieApart-earlier, joined-apart}

-- what is done of it: the ranges in front, the one at hand, and those that are left
pub record IsJoinedSoFar (size : ℕ) (first : Span) (ranges all : List Span) (own : Span) (rest : List Span) : Type 0 where
  pub so_far : all ++ joined own rest ≡ joined first ranges
  pub full : own.start < own.end
  pub apart : LieApart 0 size rest

-- one that lies before it goes in front
pub joined_before : (size : ℕ) (first : Span) (ranges all : List Span) (own range : Span) (rest : List Span) → range.end < own.start → IsJoinedSoFar size first ranges all own (range ∷ rest)
    → IsJoinedSoFar size first ranges (all ++ range ∷ []) own rest
joined_before size first ranges all own range rest before done = grind (arith, common_steps, append_assoc, joined, cond-true, lt-ltb, LieApart-earlier)

-- one that lies after it is at hand then
pub joined_behind : (size : ℕ) (first : Span) (ranges all : List Span) (own range : Span) (rest : List Span) → own.end < range.start → IsJoinedSoFar size first ranges all own (range ∷ rest)
    → IsJoinedSoFar size first ranges (all ++ own ∷ []) range rest
joined_behind size first ranges all own range rest behind done = grind (arith, common_steps, append_assoc, joined, joined-apart, cond-false, le-ltb, cond-true, lt-ltb, LieApart-earlier)

-- one that touches or overlaps it becomes one with it
pub joined_touching : (size : ℕ) (first : Span) (ranges all : List Span) (own range : Span) (rest : List Span) → own.start ≤ range.end → range.start ≤ own.end → IsJoinedSoFar size first ranges all own (range ∷ rest)
    → IsJoinedSoFar size first ranges all (record { start = min own.start range.start; end = max own.end range.end }) rest
joined_touching size first ranges all own range rest not_before not_behind done = grind (arith, common_steps, cond-false, joined, le-ltb, LieApart-earlier)

-- a range that is cut: it is kept, or left out
pub cut_kept : (size : ℕ) (range : Span) (rest : List Span) → range.start < size → cut_at size (range ∷ rest) ≡ record { start = range.start; end = min range.end size } ∷ cut_at size rest
cut_kept size range rest before = grind (arith, common_steps)

pub cut_left_out : (size : ℕ) (range : Span) (rest : List Span) → size ≤ range.start → cut_at size (range ∷ rest) ≡ cut_at size rest
cut_left_out size range rest behind = grind (arith, common_steps)
