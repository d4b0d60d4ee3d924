use Rattle.std.proofs.Common.{◌≡◌, ◌+◌, ◌≤◌, ℕ, List, map, drop}
use Rattle.std.specs.Borrow.{Bor}
use Rattle.org_account.specs.Text.{copies_among}
use Rattle.org_account.proofs.in_order.count_among.Given as goal

abbrev pub invariant-loop-other : goal.invariant-loop-other
invariant-loop-other l = record {
  all : l.count + copies_among l.line (map (λ (x : Bor (List ℕ)). x.now) (drop l.other-index l.lines)) ≡ copies_among l.line (map (λ (x : Bor (List ℕ)). x.now) l.lines);
  few : l.count ≤ l.other-index;
}
