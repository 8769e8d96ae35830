use Rattle.plan.proofs.Uncovered.{Covering}
use Rattle.plan.proofs.gather.uncovered.Given as goal

abbrev pub invariant-loop-x : goal.invariant-loop-x
invariant-loop-x l = Covering l.fn.live l.count l.initial.l l.l l.x-index
