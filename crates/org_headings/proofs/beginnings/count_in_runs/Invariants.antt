use Rattle.std.proofs.Common.{◌≡◌, ◌+◌, ◌-◌, ◌≤◌, drop, length, not}
use Rattle.std.specs.List.{prefix_len}
use Rattle.org_headings.specs.declared.beginnings.Beginnings.{Beginnings}
use Rattle.org_headings.specs.Beginnings.{may_have}
use Rattle.org_headings.proofs.beginnings.count_in_runs.Given as goal

abbrev pub invariant-loop-count : goal.invariant-loop-count
invariant-loop-count l = (l.count ≤ length l.lines) × (l.count + prefix_len (λ (line : Beginnings). not (may_have l.title line)) (drop l.count l.lines) ≡ prefix_len (λ (line : Beginnings). not (may_have l.title line)) l.lines)

abbrev pub decreases-loop-count : goal.decreases-loop-count
decreases-loop-count l = length l.lines - l.count
