use Rattle.std.proofs.Common.{◌≡◌, take, map}
use Rattle.org_headings.specs.declared.heads.Heading.{Heading}
use Rattle.org_headings.proofs.heads.beginnings_of.Given as goal

abbrev pub invariant-loop-heading : goal.invariant-loop-heading
invariant-loop-heading l = l.beginnings.items ≡ map (λ (h : Heading). h.beginnings) (take l.heading-index l.headings)
