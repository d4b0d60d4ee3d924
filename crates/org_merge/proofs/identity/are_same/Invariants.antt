use Rattle.std.proofs.Common.{◌≡◌, map, take}
use Rattle.org_merge.specs.Identity.{file_given}
use Rattle.org_merge.proofs.identity.are_same.Given as goal

abbrev pub invariant-loop-place : goal.invariant-loop-place
invariant-loop-place l = map file_given (take l.place l.one) ≡ map file_given (take l.place l.other)
