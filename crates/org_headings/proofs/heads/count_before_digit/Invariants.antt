use Rattle.std.proofs.Common.{◌≡◌, ◌+◌, drop}
use Rattle.std.specs.Prelude.{not}
use Rattle.std.specs.List.{prefix_len}
use Rattle.org_headings.specs.declared.heads.Heading.{Heading}
use Rattle.org_headings.specs.Headings.{can_be_dated}
use Rattle.org_headings.proofs.heads.count_before_digit.Given as goal

abbrev pub invariant-loop-count : goal.invariant-loop-count
invariant-loop-count l = l.count + prefix_len (λ (h : Heading). not (can_be_dated l.level h)) (drop l.count l.headings) ≡ prefix_len (λ (h : Heading). not (can_be_dated l.level h)) l.headings
