use Rattle.std.proofs.Common.{◌≡◌, false, take, not}
use Rattle.std.specs.List.{prefix_len}
use Rattle.org_headings.specs.declared.beginnings.Beginnings.{Beginnings}
use Rattle.org_headings.specs.Beginnings.{may_have}
use Rattle.org_headings.proofs.beginnings.any_allows.Given as goal

abbrev pub invariant-loop-line : goal.invariant-loop-line
invariant-loop-line l = l.any ≡ false → prefix_len (λ (line : Beginnings). not (may_have l.title line)) (take l.line-index l.lines) ≡ l.line-index
