use Rattle.org_account.specs.Order.{AreKnown}
use Rattle.org_account.proofs.order.have_one_order.Given as goal

abbrev pub invariant-loop-unit : goal.invariant-loop-unit
invariant-loop-unit l = AreKnown l.table l.first l.second l.unit l.last.items l.same.items
