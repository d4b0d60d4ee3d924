use Rattle.std.proofs.Common.{ℕ, List, map, length}
use Rattle.std.specs.Borrow.{Bor}
use Rattle.org_splice.specs.Lines.{lines_of}
use Rattle.org_account.specs.Text.{IsInOrder, StandIn, MayBeMissing, unlogged}
use Rattle.org_account.proofs.in_order.is_in_order.Given as goal

abbrev pub invariant-loop-left : goal.invariant-loop-left
invariant-loop-left l = StandIn (MayBeMissing l.texts l.other) (map (λ (x : Bor (List ℕ)). x.now) l.missing.items) (unlogged l.log (lines_of l.left)) (lines_of l.rest) → IsInOrder l.texts l.side l.other

abbrev pub decreases-loop-left : goal.decreases-loop-left
decreases-loop-left l = length l.left
