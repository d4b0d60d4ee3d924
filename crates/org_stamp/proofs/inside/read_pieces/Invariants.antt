use Rattle.std.proofs.Common.{◌≡◌, ◌≤◌, ◌-◌, IsTrue, not, take, drop}
use Rattle.std.specs.List.{slice_split, list_all}
use Rattle.org_stamp.specs.Parts.{is_blank}
use Rattle.org_stamp.specs.Reading.{nothing, gathered, pieces_with}
use Rattle.org_stamp.proofs.inside.read_pieces.Given as goal

-- what was found, with the pieces that are left, is what all the pieces say; no blank stands since
-- `start`
abbrev pub invariant-loop-at : goal.invariant-loop-at
invariant-loop-at l = record {
  start : l.start ≤ l.at;
  plain : IsTrue (list_all (λ b. not (is_blank b)) (take (l.at - l.start) (drop l.start l.tail)));
  left : pieces_with (gathered l.found) (slice_split is_blank (drop l.start l.tail)) ≡ pieces_with nothing (slice_split is_blank l.tail);
}
