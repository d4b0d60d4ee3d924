use Rattle.std.proofs.Common.{◌≡◌, ◌≤◌, false, true, drop}
use Rattle.org_serve.specs.Grammar.{mark_from}
use Rattle.org_serve.proofs.field.mark.Given as goal

abbrev pub invariant-loop-at : goal.invariant-loop-at
invariant-loop-at l = record {
  place : mark_from l.is_escaped l.at (drop l.at l.field) ≡ mark_from false 0 l.field;
  behind : l.is_escaped ≡ true → 1 ≤ l.at;
}
