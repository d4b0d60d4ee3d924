use Rattle.std.proofs.Common.{◌≡◌, ◌++◌, take, drop, map}
use Rattle.std.specs.List.{AllByRecursion}
use Rattle.org_headings.specs.Headings.{moved, CanMove}
use Rattle.org_headings.proofs.heads.move_by.Given as goal

abbrev pub invariant-loop-heading : goal.invariant-loop-heading
invariant-loop-heading l =
    (l.headings ≡ map (moved l.removed l.added) (take l.heading-index l.initial.headings) ++ drop l.heading-index l.initial.headings)
    × AllByRecursion (λ h. CanMove l.removed l.added h) (drop l.heading-index l.initial.headings)
