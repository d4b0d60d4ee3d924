use Rattle.std.proofs.Common.{length, ◌-◌}
use Rattle.org_folder.specs.Raw.{OnlyAsks}
use Rattle.org_folder.proofs.system.looks.compare.Given as goal

-- only reads so far
abbrev pub invariant-loop-from : goal.invariant-loop-from
invariant-loop-from g l = OnlyAsks (g.C.Calls.made l.fn.calls) (g.C.Calls.made l.calls)

abbrev pub decreases-loop-from : goal.decreases-loop-from
decreases-loop-from g l = length l.bytes - l.from
