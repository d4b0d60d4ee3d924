use Rattle.std.proofs.Common.{◌≡◌, drop}
use Rattle.org_headings.specs.Headings.{lowest_level}
use Rattle.org_headings.proofs.heads.lowest_level.Given as goal

abbrev pub invariant-loop-heading : goal.invariant-loop-heading
invariant-loop-heading l = lowest_level l.lowest (drop l.heading-index l.headings) ≡ lowest_level l.level l.headings
