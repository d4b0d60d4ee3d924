use Rattle.std.proofs.Common.{length}
use Rattle.org_account.specs.Heading.{EachTag, IsRightTag}
use Rattle.org_account.proofs.heading.are_right.Given as goal

abbrev pub invariant-loop-tag : goal.invariant-loop-tag
invariant-loop-tag l = EachTag (IsRightTag l.tags) l.left → EachTag (IsRightTag l.tags) l.of

abbrev pub decreases-loop-tag : goal.decreases-loop-tag
decreases-loop-tag l = length l.left
