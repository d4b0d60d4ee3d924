use Rattle.std.proofs.Common.{◌≡◌, ◌+◌, drop, nat_lt}
use Rattle.std.specs.List.{prefix_len}
use Rattle.org_headings.specs.declared.heads.Heading.{Heading}
use Rattle.org_headings.proofs.heads.deeper_count.Given as goal

abbrev pub invariant-loop-count : goal.invariant-loop-count
invariant-loop-count l = l.count + prefix_len (λ (h : Heading). nat_lt l.level h.level) (drop l.count l.headings) ≡ prefix_len (λ (h : Heading). nat_lt l.level h.level) l.headings
