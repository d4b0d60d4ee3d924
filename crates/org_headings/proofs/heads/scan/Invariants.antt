use Rattle.std.proofs.Common.{◌-◌, length}
use Rattle.org_headings.proofs.HeadsFrom.{ScannedOnto}
use Rattle.org_headings.proofs.heads.scan.Given as goal

abbrev pub invariant-loop-skipped : goal.invariant-loop-skipped
invariant-loop-skipped l = ScannedOnto l.text l.base l.from l.initial.headings.items l.headings.items

abbrev pub decreases-loop-skipped : goal.decreases-loop-skipped
decreases-loop-skipped l = length l.text - l.from
