use Rattle.org_folder.specs.Raw.{OnlyAsks}
use Rattle.org_folder.proofs.system.way.Ways.check_path.Given as goal

abbrev pub invariant-loop-at : goal.invariant-loop-at
invariant-loop-at g l = OnlyAsks (g.C.Calls.made l.fn.calls) (g.C.Calls.made l.calls)
