use Rattle.std.proofs.Common.{◌≡◌, ◌<◌, ℕ, false}
use Rattle.org_folder.specs.Aliases.{is_again}
use Rattle.org_folder.proofs.aliases.first_again.Given as goal

abbrev pub invariant-loop-at : goal.invariant-loop-at
invariant-loop-at l = (i : ℕ) → i < l.at → is_again l.nodes i ≡ false
