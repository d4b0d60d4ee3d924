use Rattle.std.proofs.Common.{◌≡◌, None, take}
use Rattle.org_headings.specs.Headings.{last_above}
use Rattle.org_headings.proofs.heads.last_above.Given as goal

abbrev pub invariant-loop-index : goal.invariant-loop-index
invariant-loop-index l = last_above l.level 0 None (take l.index l.headings) ≡ last_above l.level 0 None l.headings
