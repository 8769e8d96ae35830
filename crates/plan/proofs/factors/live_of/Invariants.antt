use Rattle.plan.proofs.Rising.{Listed}
use Rattle.plan.proofs.factors.live_of.Given as goal

abbrev pub invariant-loop-i : goal.invariant-loop-i
invariant-loop-i l = Listed l.factors l.numbers l.lives l.i
