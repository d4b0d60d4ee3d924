use Rattle.std.proofs.Common.{◌≡◌, length}
use Rattle.org_account.specs.Heading.{has_tag}
use Rattle.org_account.proofs.heading.has_tag.Given as goal

abbrev pub invariant-loop-word : goal.invariant-loop-word
invariant-loop-word l = has_tag l.tag l.left ≡ has_tag l.tag l.tags

abbrev pub decreases-loop-word : goal.decreases-loop-word
decreases-loop-word l = length l.left
