use Rattle.std.proofs.Common.{◌≡◌, length}
use Rattle.std.specs.List.{list_any}
use Rattle.org_splice.specs.Lines.{lines_of}
use Rattle.org_meta.specs.Sections.{is_end}
use Rattle.org_meta.proofs.clocking.has_end.Given as goal

abbrev pub invariant-loop-line : goal.invariant-loop-line
invariant-loop-line l = list_any is_end (lines_of l.text.bytes.now) ≡ list_any is_end (lines_of l.left.bytes.now)

abbrev pub decreases-loop-line : goal.decreases-loop-line
decreases-loop-line l = length l.left.bytes.now
