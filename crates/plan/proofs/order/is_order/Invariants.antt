use Rattle.plan.proofs.Orders.{Met}
use Rattle.plan.proofs.order.is_order.Given as goal

abbrev pub invariant-loop-k : goal.invariant-loop-k
invariant-loop-k l = Met l.n l.order l.met l.k-index
