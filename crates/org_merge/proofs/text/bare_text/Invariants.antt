use Rattle.std.proofs.Common.{◌≡◌, ◌++◌, length, map}
use Rattle.org_splice.specs.Lines.{lines_of, print_lines}
use Rattle.org_merge.specs.Reading.{bare}
use Rattle.org_merge.proofs.text.bare_text.Given as goal

abbrev pub invariant-loop-left : goal.invariant-loop-left
invariant-loop-left l = l.out.items ++ print_lines (map bare (lines_of l.left)) ≡ print_lines (map bare (lines_of l.text))

abbrev pub decreases-loop-left : goal.decreases-loop-left
decreases-loop-left l = length l.left
