use Rattle.std.proofs.Common.{◌≡◌, take}
use Rattle.orgs_names.specs.Called.{folded_titles}
use Rattle.orgs_names.proofs.name.folded_titles.Given as goal

abbrev pub invariant-loop-step : goal.invariant-loop-step
invariant-loop-step l = l.titles.items ≡ folded_titles (take l.step-index l.path)
