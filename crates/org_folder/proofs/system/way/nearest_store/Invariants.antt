use Rattle.org_folder.specs.Raw.{OnlyAsks}
use Rattle.org_folder.proofs.system.way.nearest_store.Given as goal

abbrev pub invariant-loop : goal.invariant-loop
invariant-loop g l = OnlyAsks (g.C.Calls.made l.fn.calls) (g.C.Calls.made l.calls)
