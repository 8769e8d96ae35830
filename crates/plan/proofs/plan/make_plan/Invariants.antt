use Rattle.plan.proofs.KeyByKey.{Both, Planning}
use Rattle.plan.proofs.plan.make_plan.Given as goal

abbrev pub invariant-loop-k : goal.invariant-loop-k
invariant-loop-k l = Both l.keys l.live l.order l.count l.n l.fw l.bw × Planning l.keys l.live l.order l.count l.n l.at l.k
