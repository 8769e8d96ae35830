use Rattle.plan.proofs.Uncovered.{Leaving}
use Rattle.plan.proofs.gather.leaves_of.Given as goal

abbrev pub invariant-loop-j : goal.invariant-loop-j
invariant-loop-j l = Leaving l.messages l.set l.initial.l l.l l.j
