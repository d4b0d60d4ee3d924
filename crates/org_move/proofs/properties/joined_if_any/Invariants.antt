use Rattle.std.proofs.Common.{◌≡◌}
use Rattle.org_move.proofs.Joins.{ended, firsts}
use Rattle.org_move.proofs.properties.joined_if_any.Given as goal

abbrev pub invariant-loop-text : goal.invariant-loop-text
invariant-loop-text l = l.made.items ≡ ended l.byte (firsts l.texts l.text-index)
