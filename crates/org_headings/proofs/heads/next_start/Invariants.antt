use Rattle.std.proofs.Common.{◌≡◌, drop}
use Rattle.org_headings.specs.Headings.{next_at}
use Rattle.org_headings.proofs.heads.next_start.Given as goal

abbrev pub invariant-loop-heading : goal.invariant-loop-heading
invariant-loop-heading l = next_at l.level (drop l.heading-index l.headings) l.end ≡ next_at l.level l.headings l.end
