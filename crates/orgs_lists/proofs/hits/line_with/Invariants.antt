use Rattle.std.proofs.Common.{◌≡◌, length}
use Rattle.std.specs.List.{list_any}
use Rattle.org_splice.specs.Lines.{lines_of}
use Rattle.orgs_lists.specs.Hits.{has_in_line}
use Rattle.orgs_lists.proofs.hits.line_with.Given as goal

-- no line before what is left has it
abbrev pub invariant-loop-line : goal.invariant-loop-line
invariant-loop-line l = list_any (has_in_line l.part) (lines_of l.lines.bytes.now) ≡ list_any (has_in_line l.part) (lines_of l.left.bytes.now)

abbrev pub decreases-loop-line : goal.decreases-loop-line
decreases-loop-line l = length l.left.bytes.now
