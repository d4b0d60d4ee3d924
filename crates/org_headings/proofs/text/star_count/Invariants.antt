use Rattle.std.proofs.Common.{◌≡◌, ◌+◌, drop}
use Rattle.org_headings.specs.Text.{stars}
use Rattle.org_headings.proofs.text.star_count.Given as goal

abbrev pub invariant-loop-count : goal.invariant-loop-count
invariant-loop-count l = l.count + stars (drop l.count l.text) ≡ stars l.text
