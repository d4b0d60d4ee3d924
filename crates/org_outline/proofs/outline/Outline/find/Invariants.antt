use Rattle.org_outline.proofs.PathWalk.{Path_walk}
use Rattle.org_outline.proofs.outline.Outline.find.Given as goal

abbrev pub invariant-loop-step : goal.invariant-loop-step
invariant-loop-step l = Path_walk l.self.states l.self.text l.path l.step-index l.found
